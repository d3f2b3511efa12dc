-- `reconcile::rct_record`: the fields are put in one behind the other. Assumes nothing.
use Rattle.reconciliation.proofs.ReconcileLaws.{rct_filled}
use Rattle.reconciliation.proofs.reconcile.rct_record.Goals as goal

pub returns : goal.returns
returns c =
    let a = c.args in
    rct_filled a.state.now a.date.now _ _ _ c.requires.0 c.requires.1 _ _ _ _ _ _
    c.put.ensures
    c.put-2.ensures
    c.put_number.ensures
    c.put_number-2.ensures
    c.put_number-3.ensures
    c.put-3.ensures
