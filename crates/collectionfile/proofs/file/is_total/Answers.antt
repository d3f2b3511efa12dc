-- `file::is_total` meets its contract: fifteen digits, and their number. Assumes nothing.
use mathlib.Core.Path.{sym, ◌∙◌}
use native.Mathlib.Omega.{arith}
use borrow.Author.Tests.{not-true, not-false}
use Rattle.collectionfile.proofs.TotalsLaws.{no_total, total_is}
use Rattle.collectionfile.proofs.file.is_total.Goals as goal

pub returns-then-not-all_digits : goal.returns-then-not-all_digits
returns-then-not-all_digits c = no_total c.args.field.now c.args.n c.requires (sym c.all_digits.ensures ∙ not-true _ c.if-not-all_digits.true-raw)

pub number_of-requires : goal.number_of-requires
number_of-requires c = (omega arith, sym c.all_digits.ensures ∙ not-false _ c.if-not-all_digits.false-raw)

pub returns : goal.returns
returns c =
    total_is c.args.field.now c.args.n c.requires c.number_of.result
    (sym c.all_digits.ensures ∙ not-false _ c.if-not-all_digits.false-raw) c.number_of.ensures.0
