-- `records_to::put_if` meets its contract: a field that differs appends its record as one block more, another leaves the buffer. Assumes nothing.
use mathlib.Core.Path.{◌≡◌}
use borrow.Author.Tests.{not-true, not-false}
use borrow.Author.Rules.{rules}
use lib.ListN.{length}
use Rattle.caserecords.proofs.RecordsToLaws.{put_none, put_one}
use Rattle.caserecords.proofs.records_to.put_if.Goals as goal

pub returns-then-not-differs : goal.returns-then-not-differs
returns-then-not-differs c =
    let a = c.args in
    put_none a.out.now a.k a.differs a.rec (not-true _ c.if-not-differs.true-raw)

pub returns : goal.returns
returns c =
    let a = c.args in
    let w : length a.rec ≡ 245 = search rules in
    put_one a.out.now a.k a.differs a.rec c.copy_in.new.dst (not-false _ c.if-not-differs.false-raw) c.copy_in.ensures w c.requires
