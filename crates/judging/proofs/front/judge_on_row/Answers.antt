-- `front::judge_on_row` meets its contract: where the first part is known, the two answers are combined as the definitions combine them.
-- Assumes nothing.
use mathlib.Core.Path.{◌≡◌}
use Rattle.judging.specs.Setting.{setting_of}
use Rattle.judging.specs.Errors.{holds17}
use native.Mathlib.Omega.{arith}
use mathlib.Core.Path.{ap, ◌∙◌}
use mathlib.Core.Bool.{Bool, not, ◌&&◌}
use Rattle.judging.specs.State.{row_in}
use Rattle.judging.proofs.FrontLaws.{row-set, row_09, row_17}
use Rattle.judging.proofs.front.judge_on_row.Goals as goal

pub returns : goal.returns
returns c =
    let a = c.args in (
      (λ state year list i names g.
          let row = row_in a.row in
          let judged = not a.f.kind && not a.f.key in
          let e9 = ap (λ (b : Bool). judged && b) c.has_09-missing.ensures ∙ row_09 state year list a.rec.now a.f i names row in
          let e17 : (judged && (not a.f.name && (not c.has_09-missing.result && c.has_17-other.result))) ≡ holds17 (setting_of state year list names) row a.rec.now =
          rw (c.has_09-missing.ensures, c.has_17-other.ensures names g)
          (row_17 state year list a.rec.now a.f i names row) in
          (row-set state year list a.rec.now a.f i names row _ _ _ _ c.flag.ensures.0 c.flag-2.ensures.0 e9 e17, e17)),
      omega (arith, c.flag.ensures.1, c.flag-2.ensures.1),
    )
