-- `convert::zero_all` meets its contract: the first i rows have zero cents, the rest is kept. Assumes nothing.
use Rattle.addcents.specs.Zeroed.{Zeroed}
use Rattle.addcents.proofs.convert.zero_all.Given as goal

abbrev pub invariant-loop-i : goal.invariant-loop-i
invariant-loop-i l = Zeroed l.initial.m l.i l.m
