-- `restoring::restore`: the rows restored and those that the entries to come leave of the rows to come make the whole. Assumes nothing.
use Rattle.takeback.proofs.RestoringLaws.{Restoring}
use Rattle.takeback.proofs.restoring.restore.Given as goal

abbrev pub invariant-loop-p : goal.invariant-loop-p
invariant-loop-p l = Restoring l.initial.m l.n l.journal l.at l.m l.s l.p
