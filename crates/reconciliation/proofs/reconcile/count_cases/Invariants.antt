-- `reconcile::count_cases`: each count, with what the rows that are left add to it, is the whole. Assumes nothing.
use mathlib.Core.Path.{◌≡◌}
use Prim.Native.Nat.{◌+◌, ◌≤◌}
use lib.ListN.{length, drop}
use Rattle.reconciliation.specs.Reconcile.{rec_records, reported_of}
use Rattle.text.specs.Characters.{A, N}
use Rattle.casemaster.specs.Master.{rows_of}
use Rattle.reconciliation.proofs.reconcile.count_cases.Given as goal

abbrev pub invariant-loop-row : goal.invariant-loop-row
invariant-loop-row l =
    (l.total ≤ l.row-index) × (l.tanf ≤ l.row-index) × (l.non_tanf ≤ l.row-index)
    × (l.total + length (rec_records l.state (drop l.row-index (rows_of l.n l.m))) ≡ length (rec_records l.state (rows_of l.n l.m)))
    × (l.tanf + reported_of A l.state (drop l.row-index (rows_of l.n l.m)) ≡ reported_of A l.state (rows_of l.n l.m))
    × (l.non_tanf + reported_of N l.state (drop l.row-index (rows_of l.n l.m)) ≡ reported_of N l.state (rows_of l.n l.m))
