-- `fantanolive_find_many`: each answer of `find_many` is written as the number and the count that its outcome stands for. Assumes nothing.
use Rattle.fantanolive.proofs.LookupCallsLaws.{many_left_lem}
use Rattle.fantanolive.proofs.lookup_calls.fantanolive_find_many.Goals as goal

pub returns-in-Ok : goal.returns-in-Ok
returns-in-Ok c = many_left_lem _ _ _ _ _ _ _ _ c.find_many.ensures c.in-Ok.is

pub returns-in-Err : goal.returns-in-Err
returns-in-Err c = rw c.number.ensures (many_left_lem _ _ _ _ _ _ _ _ c.find_many.ensures c.in-Err.is)
