-- `row::is_live` meets its contract: the one column of the status is byte 195. Assumes nothing.
use lib.Dec.{lit≤}
use Rattle.casemaster.specs.Row.{is_live}
use Rattle.text.proofs.FieldsLaws.{one_column}
use Rattle.casemaster.proofs.row.is_live.Goals as goal

pub returns : goal.returns
unfolding is_live
returns c = rw (one_column 196 c.args.row.now (lit≤ tt))
