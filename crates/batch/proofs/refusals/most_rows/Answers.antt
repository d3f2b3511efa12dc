-- `refusals::most_rows`: rows are at most the lesser of two numbers where they are at most both; the code's limit is the definition's.
-- Assumes nothing.
use lib.ListN.{length}
use Prim.Native.Nat.{◌/◌}
use native.Mathlib.Omega.{arith}
use Rattle.layout.proofs.LimitsLaws.{max_rows_lem}
use Rattle.layout.specs.Limits.{max_rows}
use Rattle.batch.proofs.ApplyLaws.{least_left, least_right}
use Rattle.batch.proofs.refusals.most_rows.Goals as goal

pub returns-then-places-lt-MAX_ROWS : goal.returns-then-places-lt-MAX_ROWS
returns-then-places-lt-MAX_ROWS c = λ rows. least_left (length c.args.m.now / 200) max_rows rows (omega (arith, max_rows_lem, c.if-places-lt-MAX_ROWS.true))

pub returns-else-places-lt-MAX_ROWS : goal.returns-else-places-lt-MAX_ROWS
returns-else-places-lt-MAX_ROWS c = λ rows. rw max_rows_lem (least_right (length c.args.m.now / 200) 16777215 rows c.if-places-lt-MAX_ROWS.false)
