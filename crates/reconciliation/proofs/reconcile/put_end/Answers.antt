-- `reconcile::put_end`: the fields are put in one behind the other. Assumes nothing.
use Rattle.reconciliation.proofs.ReconcileLaws.{end_written}
use Rattle.reconciliation.proofs.reconcile.put_end.Goals as goal

pub returns : goal.returns
returns c =
    let w = c.args in
    end_written w.row.now w.rec.now c.exclusion_columns-names.result _ _ _ c.put.ensures c.exclusion_columns-names.ensures c.put-2.ensures
    c.put-3.ensures
