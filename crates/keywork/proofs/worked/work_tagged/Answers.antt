-- `worked::work_tagged` meets its contract: the step of the record, whose other errors, warning and mark are in the number. Assumes nothing.
use Rattle.keywork.proofs.WorkedLaws.{work_one}
use Rattle.onecase.specs.Machine.{row_of}
use Rattle.keywork.proofs.worked.work_tagged.Goals as goal

pub returns : goal.returns
returns c =
    let a = c.args in
    work_one a.setting.state.now a.setting.year a.setting.locals.list.now a.batch.now a.x c.index_part-i.result c.record_at-rec.result (row_of a.case.now)
    c.front_of-f.result c.flag_local-local.result c.flag_given-given.result _ _ c.with_verdict.result
    c.index_part-i.ensures.0 c.record_at-rec.ensures c.front_of-f.ensures.0 c.flag_local-local.ensures c.flag_given-given.ensures
    c.step_known-verdict.ensures c.with_verdict.ensures
