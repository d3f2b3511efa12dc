-- `fantanolive_contacts_codes`: each answer of `codes_of` is written as the number and the count that its outcome stands for. Assumes nothing.
use Rattle.fantanolive.proofs.ContactsCallsLaws.{codes_left_lem}
use Rattle.fantanolive.proofs.contacts_calls.fantanolive_contacts_codes.Goals as goal

pub returns-in-Ok : goal.returns-in-Ok
returns-in-Ok c = codes_left_lem _ _ _ _ _ _ _ _ c.codes_of.ensures c.in-Ok.is

pub returns-in-Err : goal.returns-in-Err
returns-in-Err c = rw c.number.ensures (codes_left_lem _ _ _ _ _ _ _ _ c.codes_of.ensures c.in-Err.is)
