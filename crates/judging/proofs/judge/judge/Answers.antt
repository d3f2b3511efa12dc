-- `judge::judge` meets its contract: the sets of both parts add up to that of all errors. Assumes nothing.
use Rattle.judging.proofs.FrontLaws.{both_sets}
use Rattle.judging.specs.State.{row_in}
use Rattle.judging.specs.Setting.{setting_of}
use Rattle.judging.proofs.judge.judge.Goals as goal

pub returns : goal.returns
returns c names g =
    let a = c.args in
    let setting = setting_of a.setting.state.now a.setting.year a.setting.locals.list.now names in
    let row = row_in a.row in
    let i = c.judge_front-f.ensures.0 in
    let r = c.judge_on_row-on_row.ensures.0 a.setting.state.now a.setting.year a.setting.locals.list.now i names g in
    (both_sets setting row a.rec.now _ _ i.set_is r.0, r.1)
