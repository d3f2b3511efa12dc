-- `row::is_deleted_at` meets its contract: the one column of the status is byte 195. Assumes nothing.
use lib.Dec.{lit≤}
use Rattle.casemaster.specs.Row.{is_live, is_deleted}
use Rattle.text.proofs.FieldsLaws.{one_column}
use Rattle.casemaster.proofs.row.is_deleted_at.Goals as goal

pub returns-then-zero : goal.returns-then-zero
unfolding is_deleted
returns-then-zero c = rw (one_column 196 c.args.row.now (lit≤ tt), c.if-zero.true)

pub returns-else-zero : goal.returns-else-zero
unfolding is_live
returns-else-zero c = rw (one_column 196 c.args.row.now (lit≤ tt), c.if-zero.false)
