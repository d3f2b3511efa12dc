-- `many::walk`: the loop keeps what has been answered and the walk that is left equal to the whole walk. Assumes nothing.
use Prim.Native.Nat.{◌+◌, ◌-◌}
use Rattle.lookup.proofs.WalkLaws.{Going}
use Rattle.lookup.proofs.many.walk.Given as goal

abbrev pub invariant-loop-i : goal.invariant-loop-i
invariant-loop-i l = Going l.m l.n l.keys l.k l.initial.places l.places l.comparisons l.p l.i

abbrev pub decreases-loop-i : goal.decreases-loop-i
decreases-loop-i l = (l.n - l.p) + (l.k - l.i)
