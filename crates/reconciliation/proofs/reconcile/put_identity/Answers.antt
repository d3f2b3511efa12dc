-- `reconcile::put_identity`: the fields are put in one behind the other. Assumes nothing.
use Rattle.reconciliation.proofs.reconcile.put_identity.Goals as goal

pub returns : goal.returns
returns c =
    rw (c.copy_field-4.ensures, c.copy_field-3.ensures, c.copy_field-2.ensures, c.copy_field.ensures, c.put.ensures)
