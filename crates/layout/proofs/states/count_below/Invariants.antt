-- `count_below` meets its contract: what is counted and what is left to count make the whole. Assumes nothing.
use Rattle.layout.specs.StateCodes.{state_codes, count_below}
use lib.ListN.{drop}
use mathlib.Core.Path.{◌≡◌}
use Prim.Native.Nat.{◌+◌, ◌≤◌}
use Rattle.layout.proofs.states.count_below.Given as goal

abbrev pub invariant-loop-code : goal.invariant-loop-code
invariant-loop-code l = record {
  few : l.n ≤ l.code-index;
  counted : l.n + count_below l.x (drop l.code-index state_codes) ≡ count_below l.x state_codes;
}
