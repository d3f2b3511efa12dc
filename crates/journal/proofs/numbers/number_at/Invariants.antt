-- `numbers::number_at`: the groups read and what stands behind them say what the bytes say from the first group on; a fifth group is out of
-- reach. Assumes nothing.
use Rattle.journal.proofs.ReadingLaws.{Reading}
use Rattle.journal.proofs.numbers.number_at.Given as goal

abbrev pub invariant-loop-i : goal.invariant-loop-i
invariant-loop-i l = Reading l.s l.at l.n l.scale l.i
