-- `Case::step` meets its contract: a set of errors that is 0 is none, and what follows is applied; else the state stays. Assumes nothing.
use mathlib.Core.Path.{refl}
use Rattle.judging.specs.Setting.{setting_of}
use Rattle.onecase.specs.Machine.{row_of}
use Rattle.onecase.proofs.StepLaws.{step_accepted, step_rejected}
use Rattle.onecase.proofs.case.Case.step.Goals as goal

pub returns-then-set-eq0 : goal.returns-then-set-eq0
returns-then-set-eq0 c names g =
    let a = c.args in
    let judged = rw c.as_ref.ensures.value at c.judge-judged.ensures names g in
    let warned = rw c.as_ref-then-set-eq0.ensures.value at c.warned-warned.ensures in
    step_accepted (setting_of a.setting.state.now a.setting.year a.setting.locals.list.now names) (row_of a.self) a.rec.now _ _ _
    judged.0 c.if-set-eq0.true warned c.apply.ensures

pub returns : goal.returns
returns c names g =
    let a = c.args in
    let judged = rw c.as_ref.ensures.value at c.judge-judged.ensures names g in
    let rejection = rw c.as_ref-2.ensures.value at c.rejection-verdict.ensures in
    step_rejected (setting_of a.setting.state.now a.setting.year a.setting.locals.list.now names) (row_of a.self) a.rec.now _ _ _ _
    judged.0 c.if-set-eq0.false judged.1 refl rejection
