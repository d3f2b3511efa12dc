-- `hints::halve`: a place moves up by no more than half of what is left behind it. Assumes nothing.
use Rattle.posting.proofs.HintLaws.{Halved}
use Rattle.posting.proofs.hints.halve.Given as goal

abbrev pub invariant-loop-k : goal.invariant-loop-k
invariant-loop-k l = Halved l.n l.left l.k l.places
