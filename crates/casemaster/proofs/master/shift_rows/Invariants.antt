-- `master::shift_rows` meets its contract. The loop's invariant: the rows from place i on have moved up. Assumes nothing.
use mathlib.Core.Path.{◌≡◌}
use Prim.Native.Nat.{◌*◌}
use Rattle.casemaster.specs.Search.{shifted}
use Rattle.casemaster.proofs.master.shift_rows.Given as goal

abbrev pub invariant-loop-i : goal.invariant-loop-i
invariant-loop-i l = l.m ≡ shifted l.initial.m (l.i * 200) (l.n * 200) (l.by * 200)
