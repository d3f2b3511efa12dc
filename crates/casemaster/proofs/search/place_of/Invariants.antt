-- `search::place_of` meets its contract. The loop's invariant: the rows before lo have keys below the one given, those from hi on keys above it.
-- Assumes nothing.
use Prim.Native.Nat.{◌-◌, ◌≤◌}
use Rattle.casemaster.specs.Master.{rows_of}
use Rattle.casemaster.proofs.HalvingLaws.{KeysBelow, KeysAbove}
use Rattle.casemaster.proofs.search.place_of.Given as goal

abbrev pub invariant-loop-lo : goal.invariant-loop-lo
invariant-loop-lo l = (l.lo ≤ l.hi) × (l.hi ≤ l.n) × KeysBelow l.key (rows_of l.n l.m) l.lo × KeysAbove l.key (rows_of l.n l.m) l.hi

abbrev pub decreases-loop-lo : goal.decreases-loop-lo
decreases-loop-lo l = l.hi - l.lo
