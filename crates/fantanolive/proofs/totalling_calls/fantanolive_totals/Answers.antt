-- `fantanolive_totals`: each answer of `total` is written as the number and the totals that its result stands for. Assumes nothing.
use Rattle.fantanolive.proofs.TotallingCallsLaws.{totals_left_lem}
use Rattle.fantanolive.proofs.totalling_calls.fantanolive_totals.Goals as goal

pub returns-in-Ok : goal.returns-in-Ok
returns-in-Ok c = totals_left_lem _ _ _ _ c.total.ensures c.in-Ok.is

pub returns-in-Err : goal.returns-in-Err
returns-in-Err c = rw c.number.ensures (totals_left_lem _ _ _ _ c.total.ensures c.in-Err.is)
