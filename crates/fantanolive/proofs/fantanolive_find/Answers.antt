-- `fantanolive_find`: each answer of `find` is written as the number and the place that it stands for. Assumes nothing.
use Rattle.fantanolive.proofs.CallsLaws.{find_left_lem}
use Rattle.fantanolive.proofs.fantanolive_find.Goals as goal

pub returns-in-Ok : goal.returns-in-Ok
returns-in-Ok c = find_left_lem _ _ _ _ _ _ c.find.ensures c.in-Ok.is

pub returns-in-Err : goal.returns-in-Err
returns-in-Err c = rw c.number.ensures (find_left_lem _ _ _ _ _ _ c.find.ensures c.in-Err.is)
