-- `search::rows_below` meets its contract. The loop's invariant: lo rows have keys below the one given, the row behind hi hasn't.
-- Assumes nothing.
use Prim.Native.Nat.{◌-◌}
use Rattle.casemaster.specs.Search.{Between}
use Rattle.casemaster.proofs.search.rows_below.Given as goal

abbrev pub invariant-loop-lo : goal.invariant-loop-lo
invariant-loop-lo l = Between l.m l.from l.end l.key l.lo l.hi

abbrev pub decreases-loop-lo : goal.decreases-loop-lo
decreases-loop-lo l = l.hi - l.lo
