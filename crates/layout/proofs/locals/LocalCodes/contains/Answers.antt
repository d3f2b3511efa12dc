-- `LocalCodes::contains` meets its contract: the list's codes are the library's chunks of three bytes, and a code of another length is not
-- listed. Assumes nothing.
use mathlib.Core.Path.{sym, ◌∙◌}
use native.Mathlib.Omega.{arith}
use borrow.Author.Tests.{tests}
use lib.Seq.{take-length}
use Rattle.layout.proofs.LocalsLaws.{listed_read, listed_found, not_listed}
use Rattle.layout.proofs.locals.LocalCodes.contains.Goals as goal

pub returns-in-Some : goal.returns-in-Some
returns-in-Some c =
    let found = c.binary_search in
    c.is_ok.ensures.value
    ∙ listed_found _ _ _ _ c.in-Some.ensures.cases.same (grind (arith, tests, c.as_chunks.ensures.front, take-length)) found.result
    (c.args.self.rises c.if-self.true) found.ensures.bound found.ensures.position

pub returns-in-Some-2 : goal.returns-in-Some-2
returns-in-Some-2 c = c.contains.ensures.value ∙ listed_read _ _ _ _ c.in-Some.ensures.cases.same c.as_chunks.ensures.front

pub returns-in-None : goal.returns-in-None
returns-in-None c = sym (not_listed _ _ c.in-None.ensures.cases)
