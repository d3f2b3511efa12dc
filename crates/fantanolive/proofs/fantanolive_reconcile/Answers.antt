-- `fantanolive_reconcile`: each answer of `reconcile` is written as the number and the count that its outcome stands for. Assumes nothing.
use Rattle.fantanolive.proofs.CallsLaws.{reconcile_left_lem}
use Rattle.fantanolive.proofs.fantanolive_reconcile.Goals as goal

pub returns-in-Ok : goal.returns-in-Ok
returns-in-Ok c = reconcile_left_lem _ _ _ _ _ _ _ _ _ c.reconcile.ensures c.in-Ok.is

pub returns-in-Err : goal.returns-in-Err
returns-in-Err c = rw c.number.ensures (reconcile_left_lem _ _ _ _ _ _ _ _ _ c.reconcile.ensures c.in-Err.is)
