-- `reconcile::put_case`: the fields are put in one behind the other. Assumes nothing.
use Rattle.reconciliation.proofs.reconcile.put_case.Goals as goal

pub returns : goal.returns
returns c =
    rw (c.copy_field-5.ensures, c.copy_field-4.ensures, c.copy_field-3.ensures, c.copy_field-2.ensures, c.copy_field.ensures)
