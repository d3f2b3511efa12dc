-- `adds::count_adds`: what was counted, with what the records from i on add, is the whole. Assumes nothing.
use mathlib.Core.Path.{◌≡◌}
use Prim.Native.Nat.{◌+◌, ◌≤◌}
use lib.ListN.{drop}
use Rattle.text.specs.Blocks.{blocks}
use Rattle.turns.specs.Adds.{add_count}
use Rattle.turns.proofs.adds.count_adds.Given as goal

abbrev pub invariant-loop-i : goal.invariant-loop-i
invariant-loop-i l = (l.count ≤ l.i) × (l.count + add_count (drop l.i (blocks 245 l.d l.batch)) ≡ add_count (blocks 245 l.d l.batch))
