-- `warnings::warned_on_row` meets its contract: the number of two codes is the sum of their flags. Assumes nothing.
use mathlib.Core.Path.{ap, ◌∙◌}
use mathlib.Core.Bool.{Bool}
use Rattle.layout.specs.Codes.{number_of_codes}
use Rattle.judging.specs.Errors.{code}
use Rattle.judging.specs.Warnings.{warning51, warning52, warnings}
use Rattle.judging.specs.State.{row_in}
use Rattle.judging.proofs.CodeSums.{sum-code}
use Rattle.judging.proofs.warnings.warned_on_row.Goals as goal

pub returns : goal.returns
unfolding warnings
returns c list e =
    let a = c.args in
    sum-code 51 (warning51 list a.rec.now) (code 52 (warning52 (row_in a.row) a.rec.now)) _ _
    (c.flag.ensures.0 ∙ ap (λ (b : Bool). number_of_codes (code 51 b)) e)
    (c.flag-2.ensures.0 ∙ ap (λ (b : Bool). number_of_codes (code 52 b)) c.has_52.ensures)
