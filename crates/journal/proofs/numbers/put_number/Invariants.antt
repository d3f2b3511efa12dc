-- `numbers::put_number`: the groups written and those of what is left make the whole number. Assumes nothing.
use Rattle.journal.proofs.ReadingLaws.{Putting}
use Rattle.journal.proofs.numbers.put_number.Given as goal

abbrev pub invariant-loop-left : goal.invariant-loop-left
invariant-loop-left l = Putting l.initial.out l.at l.n l.out l.left l.i

abbrev pub decreases-loop-left : goal.decreases-loop-left
decreases-loop-left l = l.left
