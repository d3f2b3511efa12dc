-- `testing::counts_of`: a count that cannot be read, or is out of reach, fits no master of so few rows. Assumes nothing.
use Rattle.takeback.proofs.TestingLaws.{no_first, no_second, second_counts}
use Rattle.takeback.proofs.testing.counts_of.Goals as goal

pub returns-in_err-first : goal.returns-in_err-first
returns-in_err-first c = rw c.from_residual.ensures (no_first c.args.journal.now (rw c.in_err-first.was at c.number_at.ensures))

pub returns-in_err-second : goal.returns-in_err-second
returns-in_err-second c =
    let first = c.in_ok-first.first in
    rw c.from_residual-in_err-second.ensures
    (no_second c.args.journal.now first (rw c.in_ok-first.was at c.number_at.ensures) (rw c.in_err-second.was at c.number_at-2.ensures))

pub returns : goal.returns
returns c =
    let first = c.in_ok-first.first in
    let second = c.in_ok-second.second in
    second_counts c.args.journal.now first (rw c.in_ok-first.was at c.number_at.ensures) second (rw c.in_ok-second.was at c.number_at-2.ensures)
