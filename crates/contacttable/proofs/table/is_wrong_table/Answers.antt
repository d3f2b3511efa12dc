-- `is_wrong_table` answers whether 18 holds: each test in the order of the sentence. Assumes nothing.
use borrow.Author.Tests.{eq-eqb, ne_eqb, le-ltb, lt-ltb}
use Rattle.contacttable.specs.Table.{is_wrong_table}
use Rattle.contacttable.proofs.table.is_wrong_table.Goals as goal

pub returns-then-m-ne0 : goal.returns-then-m-ne0
unfolding is_wrong_table
returns-then-m-ne0 c = rw (ne_eqb _ _ c.if-m-ne0.true)

pub returns-then-m-count : goal.returns-then-m-count
unfolding is_wrong_table
returns-then-m-count c = rw (eq-eqb _ _ c.if-m-ne0.false, lt-ltb _ _ c.if-m-count.true)

pub returns : goal.returns
unfolding is_wrong_table
returns c = rw (eq-eqb _ _ c.if-m-ne0.false, le-ltb _ _ c.if-m-count.false, c.is_table.ensures)
