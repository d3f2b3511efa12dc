-- `Case::step_known` meets its contract: both sets add up to that of all errors, and the step follows from it as from `judge`. Assumes nothing.
use mathlib.Core.Path.{◌≡◌, refl}
use native.Mathlib.Omega.{arith}
use Rattle.judging.specs.Setting.{setting_of}
use Rattle.judging.proofs.FrontLaws.{both_sets}
use Rattle.onecase.specs.Machine.{row_of}
use Rattle.onecase.proofs.StepLaws.{step_accepted, step_rejected}
use Rattle.onecase.proofs.case.Case.step_known.Goals as goal

pub returns-then-set-eq0 : goal.returns-then-set-eq0
returns-then-set-eq0 c state year i w names g =
    let a = c.args in
    let setting = setting_of state year a.locals.list.now names in
    let row = row_of a.self.now in
    let z : a.f.set ≡ 0 = omega (arith, c.if-set-eq0.true) in
    let judged = rw c.as_ref.ensures.value at c.judge_on_row-b.ensures.0 state year a.locals.list.now i names g in
    let warned = rw c.as_ref-then-set-eq0.ensures.value at c.warned_on_row-warned.ensures a.locals.list.now (w z) in
    step_accepted setting row a.rec.now _ _ _ (both_sets setting row a.rec.now _ _ i.set_is judged.0) c.if-set-eq0.true warned c.apply.ensures

pub returns : goal.returns
returns c state year i w names g =
    let a = c.args in
    let setting = setting_of state year a.locals.list.now names in
    let row = row_of a.self.now in
    let judged = rw c.as_ref.ensures.value at c.judge_on_row-b.ensures.0 state year a.locals.list.now i names g in
    let rejection = rw c.as_ref-2.ensures.value at c.rejection.ensures in
    step_rejected setting row a.rec.now _ _ _ _ (both_sets setting row a.rec.now _ _ i.set_is judged.0) c.if-set-eq0.false judged.1 refl rejection
