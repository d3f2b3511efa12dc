-- `counting::new_rows`: what is counted and what the keys to come add make the whole, in every setting in which the details are in order.
-- Assumes nothing.
use Prim.Native.Nat.{ℕ, ◌-◌, ◌≤◌}
use mathlib.Core.Path.{◌≡◌}
use mathlib.Core.Bool.{true}
use mathlib.Core.List.{List}
use Rattle.layout.specs.Batch.{detail_count}
use Rattle.text.specs.ByteOrder.{rising}
use Rattle.casemaster.specs.Master.{rows_of, keys_of}
use Rattle.keywalk.specs.Walking.{OrderReady, fixed_of}
use Rattle.keywalk.proofs.CountingLaws.{Counting}
use Rattle.keywalk.proofs.counting.new_rows.Given as goal

abbrev pub invariant-loop-s : goal.invariant-loop-s
invariant-loop-s l =
    (l.s.position ≤ l.own) × (l.s.from ≤ l.n) × (l.s.new ≤ l.s.position)
    × ((batch : List ℕ) (year : ℕ) (list : List ℕ) (o : OrderReady l.state year list batch (detail_count batch) l.own l.numbers) (r : rising (keys_of (rows_of l.n l.m)) ≡ true)
    → Counting (fixed_of l.state year list batch l.own l.n) l.m l.numbers o r l.s)

abbrev pub decreases-loop-s : goal.decreases-loop-s
decreases-loop-s l = l.own - l.s.position
