-- `is_table` answers for the records, then for their order. Assumes nothing.
use mathlib.Core.Path.{sym, ◌∙◌}
use Rattle.contacttable.specs.Table.{is_table}
use Rattle.contacttable.proofs.table.is_table.Goals as goal

pub returns-then-are_good : goal.returns-then-are_good
unfolding is_table
returns-then-are_good c =
    let e = sym c.are_good.ensures ∙ c.if-are_good.true in
    rw e c.is_rising.ensures

pub returns-else-are_good : goal.returns-else-are_good
unfolding is_table
returns-else-are_good c =
    let e = sym c.are_good.ensures ∙ c.if-are_good.false in
    rw e c.if-are_good.false
