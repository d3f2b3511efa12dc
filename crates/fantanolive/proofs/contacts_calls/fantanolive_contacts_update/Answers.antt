-- `fantanolive_contacts_update`: each answer of `update` is written as the number and the result that its outcome stands for.
-- Assumes nothing.
use Rattle.fantanolive.proofs.ContactsCallsLaws.{update_left_lem}
use Rattle.fantanolive.proofs.contacts_calls.fantanolive_contacts_update.Goals as goal

pub returns-in-Ok : goal.returns-in-Ok
returns-in-Ok c =
    update_left_lem _ _ _ _ _ _ _ _ _ c.update.ensures c.in-Ok.is

pub returns-in-Err : goal.returns-in-Err
returns-in-Err c =
    rw c.number.ensures (update_left_lem _ _ _ _ _ _ _ _ _ c.update.ensures c.in-Err.is)
