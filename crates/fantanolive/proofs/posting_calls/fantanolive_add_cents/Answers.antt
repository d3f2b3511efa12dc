-- `fantanolive_add_cents`: each answer of `add_cents` is written as its number. Assumes nothing.
use Rattle.addcents.specs.Convert.{convert_call}
use Rattle.fantanolive.proofs.PostingCallsLaws.{convert_left_lem}
use Rattle.fantanolive.proofs.posting_calls.fantanolive_add_cents.Goals as goal

pub returns-in-Ok : goal.returns-in-Ok
returns-in-Ok c = convert_left_lem (convert_call _ _) _ _ _ c.add_cents.ensures c.in-Ok.is

pub returns-in-Err : goal.returns-in-Err
returns-in-Err c = rw c.number.ensures (convert_left_lem (convert_call _ _) _ _ _ c.add_cents.ensures c.in-Err.is)
