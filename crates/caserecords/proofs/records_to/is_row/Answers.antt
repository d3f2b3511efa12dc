-- `records_to::is_row` meets its contract: what isn't 200 bytes is no row, and of the rest a master of the row alone decides. Assumes nothing.
use mathlib.Core.Path.{sym, ◌∙◌}
use borrow.Author.Tests.{ne_eqb}
use Rattle.caserecords.specs.RecordsTo.{is_row}
use Rattle.caserecords.proofs.RecordsToLaws.{passed_sound}
use Rattle.caserecords.proofs.records_to.is_row.Goals as goal

pub returns-then-row-ne-ROW_WIDTH : goal.returns-then-row-ne-ROW_WIDTH
unfolding is_row
returns-then-row-ne-ROW_WIDTH c = sym (rw (ne_eqb _ 200 c.if-row-ne-ROW_WIDTH.true))

pub returns : goal.returns
returns c =
    c.is_ok.ensures.value ∙ passed_sound c.args.row.now c.master_refusal.result c.if-row-ne-ROW_WIDTH.false c.master_refusal.ensures
