-- `search::reach_by_doubling` meets its contract. The loop's invariant: the first low rows from place `from` on have keys below the one given.
-- Assumes nothing.
use mathlib.Core.Bool.{true}
use mathlib.Core.Path.{◌≡◌}
use Prim.Native.Nat.{ℕ, ◌+◌, ◌-◌, ◌≤◌, ◌<◌}
use Rattle.casemaster.specs.Search.{is_below_at}
use Rattle.casemaster.proofs.search.reach_by_doubling.Given as goal

abbrev pub invariant-loop-low : goal.invariant-loop-low
invariant-loop-low l = (l.low ≤ l.n) × ((j : ℕ) → j < l.low → is_below_at l.m (l.from + j) l.key ≡ true)

abbrev pub decreases-loop-low : goal.decreases-loop-low
decreases-loop-low l = l.n - l.low
