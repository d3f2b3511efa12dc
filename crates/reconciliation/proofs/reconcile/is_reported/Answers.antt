-- `reconcile::is_reported`: the two tests are those of the definition, on the same columns. Assumes nothing.
use Rattle.reconciliation.proofs.reconcile.is_reported.Goals as goal

pub returns : goal.returns
returns c = rw (c.is_live.ensures, c.same.ensures, c.field.ensures)
