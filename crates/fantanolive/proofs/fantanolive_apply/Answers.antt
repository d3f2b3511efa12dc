-- `fantanolive_apply`: each answer of `apply` is written as the number and the result that its outcome stands for. Assumes nothing.
use Rattle.fantanolive.proofs.CallsLaws.{apply_left_lem}
use Rattle.batch.specs.Call.{call_of}
use Rattle.fantanolive.proofs.fantanolive_apply.Goals as goal

pub returns-in-Ok : goal.returns-in-Ok
returns-in-Ok c =
    let a = c.args in
    let g = call_of a.master.now a.rows a.batch.now a.locals.now a.year a.verdicts.now a.rejects.now in
    apply_left_lem g _ _ _ _ _ _ c.apply.ensures c.in-Ok.is

pub returns-in-Err : goal.returns-in-Err
returns-in-Err c =
    let a = c.args in
    let g = call_of a.master.now a.rows a.batch.now a.locals.now a.year a.verdicts.now a.rejects.now in
    rw c.number.ensures (apply_left_lem g _ _ _ _ _ _ c.apply.ensures c.in-Err.is)
