-- `line::put_letters`: the loop keeps the letters before i written and the bytes from i on as they were. Assumes nothing.
use mathlib.Core.Path.{◌≡◌}
use Prim.Native.Nat.{◌≤◌}
use lib.ListN.{length, take, drop}
use Rattle.apply_output.specs.Line.{letters}
use Rattle.apply_output.proofs.line.put_letters.Given as goal

abbrev pub invariant-loop-i : goal.invariant-loop-i
invariant-loop-i l = (l.i ≤ length l.state) × (length l.out ≡ length l.initial.out) × (take l.i l.out ≡ letters (take l.i l.state)) × (drop l.i l.out ≡ drop l.i l.initial.out)
