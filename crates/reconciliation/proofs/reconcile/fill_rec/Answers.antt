-- `reconcile::fill_rec`: its three parts make the record. Assumes nothing.
use Rattle.reconciliation.proofs.ReconcileLaws.{rec_filled}
use Rattle.reconciliation.proofs.reconcile.fill_rec.Goals as goal

pub returns : goal.returns
returns c =
    let w = c.args in
    rec_filled w.row.now w.rec.now c.requires.1 c.requires.0 _ _ _ c.put_identity.ensures c.put_case.ensures c.put_end.ensures
