-- `key_work::work_key`: the marks are those of the names given among the key's details, and change no index. Assumes nothing.
use Rattle.keywork.proofs.KeyWorkLaws.{run_ready, there_after, key_run}
use Rattle.keywork.proofs.key_work.work_key.Goals as goal

pub mark_run-requires : goal.mark_run-requires
mark_run-requires c =
    let a = c.args in
    run_ready a.setting.state.now a.setting.year a.setting.locals.list.now a.batch.now a.numbers.now a.p a.e a.gives c.requires

pub work_run-requires : goal.work_run-requires
work_run-requires c =
    let a = c.args in
    let t =
    there_after a.setting.state.now a.setting.year a.setting.locals.list.now a.batch.now a.numbers.now a.p a.e a.gives c.requires _
    c.mark_run.ensures in
    t

pub returns : goal.returns
returns c =
    let a = c.args in
    key_run a.setting.state.now a.setting.year a.setting.locals.list.now a.batch.now a.numbers.now a.p a.e a.gives c.requires _ c.mark_run.ensures _ _ _ c.work_run.ensures
