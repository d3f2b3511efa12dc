-- `reconcile::put_records`: what is written, and the records of the rows that are left behind it, are all the records. Assumes nothing.
use Rattle.reconciliation.proofs.ReconcileLaws.{Writing}
use Rattle.reconciliation.proofs.reconcile.put_records.Given as goal

abbrev pub invariant-loop-row : goal.invariant-loop-row
invariant-loop-row l = Writing l.state l.n l.m l.initial.out l.out l.k l.row-index
