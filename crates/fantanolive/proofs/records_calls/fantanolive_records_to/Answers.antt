-- `fantanolive_records_to`: each answer of `records_to` is written as the number and the count that its outcome stands for. Assumes nothing.
use Rattle.fantanolive.proofs.RecordsCallsLaws.{records_left_lem}
use Rattle.fantanolive.proofs.records_calls.fantanolive_records_to.Goals as goal

pub returns-in-Ok : goal.returns-in-Ok
returns-in-Ok c =
    let a = c.args in
    records_left_lem a.row.now a.wanted.now a.locals.now a.out.now _ _ _ _ c.records_to.ensures c.in-Ok.is

pub returns-in-Err : goal.returns-in-Err
returns-in-Err c =
    let a = c.args in
    rw c.number.ensures (records_left_lem a.row.now a.wanted.now a.locals.now a.out.now _ _ _ _ c.records_to.ensures c.in-Err.is)
