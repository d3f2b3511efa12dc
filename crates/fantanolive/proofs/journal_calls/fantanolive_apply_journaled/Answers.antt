-- `fantanolive_apply_journaled`: each answer of `apply_journaled` is written as the number and the result that its outcome stands for. Assumes
-- nothing.
use Rattle.batch.specs.Call.{call_of}
use Rattle.journaledapply.specs.Journaled.{with_journal}
use Rattle.fantanolive.proofs.JournalCallsLaws.{journaled_left_lem}
use Rattle.fantanolive.proofs.journal_calls.fantanolive_apply_journaled.Goals as goal

pub returns-in-Ok : goal.returns-in-Ok
returns-in-Ok c =
    let a = c.args in
    let g = call_of a.master.now a.rows a.batch.now a.locals.now a.year a.verdicts.now a.rejects.now in
    journaled_left_lem (with_journal g a.journal.now) _ _ _ _ _ _ _ c.apply_journaled.ensures c.in-Ok.is

pub returns-in-Err : goal.returns-in-Err
returns-in-Err c =
    let a = c.args in
    let g = call_of a.master.now a.rows a.batch.now a.locals.now a.year a.verdicts.now a.rejects.now in
    rw c.number.ensures (journaled_left_lem (with_journal g a.journal.now) _ _ _ _ _ _ _ c.apply_journaled.ensures c.in-Err.is)
