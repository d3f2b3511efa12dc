-- `runs::run_at`. The invariant: the numbers from p up to e have one rank, and their flags together are known. Assumes nothing.
use Rattle.keyorder.proofs.RunLaws.{RunTo}
use Rattle.keyorder.proofs.runs.run_at.Given as goal

abbrev pub invariant-loop-e : goal.invariant-loop-e
invariant-loop-e l = RunTo l.numbers l.p l.e l.gives l.makes
