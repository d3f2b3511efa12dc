-- `front::judge_front` meets its contract: the parts' numbers and that of 18 add up to the first part's. Assumes nothing.
use native.Mathlib.Omega.{arith}
use mathlib.Core.Path.{ap, ◌∙◌}
use mathlib.Core.Bool.{Bool}
use Rattle.layout.specs.Codes.{number_of_codes}
use Rattle.judging.specs.Errors.{code}
use Rattle.judging.proofs.FrontLaws.{front-set}
use Rattle.judging.proofs.front.judge_front.Goals as goal

pub returns : goal.returns
returns c =
    let a = c.args in
    let f = c.judge_first-f in (
      record {
        set_is =
            front-set a.setting.state.now a.setting.year a.setting.locals.list.now a.rec.now f.result f.ensures _ _ _ _ _
            c.set_first.ensures.0 c.set_06_to_08.ensures.0 c.set_10_to_13.ensures.0
            c.set_14_to_16.ensures.0
            (c.flag.ensures.0 ∙ ap (λ (b : Bool). number_of_codes (code 18 b)) c.has_18.ensures);
        key_is = rw (f.ensures.has01, f.ensures.has02, f.ensures.has04);
        kind_is = f.ensures.has03;
        name_is = f.ensures.has05;
      },
      omega (arith, c.set_first.ensures.1, c.set_06_to_08.ensures.1, c.set_10_to_13.ensures.1, c.set_14_to_16.ensures.1, c.flag.ensures.1),
    )
