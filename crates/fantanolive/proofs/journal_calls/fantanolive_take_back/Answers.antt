-- `fantanolive_take_back`: each answer of `take_back` is written as the number and the count that its outcome stands for. Assumes nothing.
use Rattle.fantanolive.proofs.JournalCallsLaws.{take_back_left_lem}
use Rattle.fantanolive.proofs.journal_calls.fantanolive_take_back.Goals as goal

pub returns-in-Ok : goal.returns-in-Ok
returns-in-Ok c = take_back_left_lem _ _ _ _ _ _ _ c.take_back.ensures c.in-Ok.is

pub returns-in-Err : goal.returns-in-Err
returns-in-Err c = rw c.number.ensures (take_back_left_lem _ _ _ _ _ _ _ c.take_back.ensures c.in-Err.is)
