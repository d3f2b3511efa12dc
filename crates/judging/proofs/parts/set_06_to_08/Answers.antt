-- `parts::set_06_to_08` meets its contract: the number of a list of codes is the sum of their flags, each at most 2 to the power of its code. Assumes nothing.
use mathlib.Core.Bool.{Bool, ◌&&◌}
use mathlib.Core.List.{◌++◌}
use mathlib.Core.Path.{ap, ◌∙◌}
use native.Mathlib.Omega.{arith}
use Rattle.layout.specs.Codes.{number_of_codes}
use Rattle.judging.specs.Errors.{error06, error07, error08, code}
use Rattle.judging.proofs.CodeSums.{sum-code}
use Rattle.judging.proofs.parts.set_06_to_08.Goals as goal

pub returns : goal.returns
returns c = (
  (sum-code 6 (c.args.known && error06 c.args.rec.now) (code 7 (c.args.known && error07 c.args.rec.now) ++ code 8 (c.args.known && error08 c.args.rec.now)) _ _ (c.flag.ensures.0 ∙ ap (λ (b : Bool). number_of_codes (code 6 (c.args.known && b))) c.has_06.ensures)
      (sum-code 7 (c.args.known && error07 c.args.rec.now) (code 8 (c.args.known && error08 c.args.rec.now)) _ _ (c.flag-2.ensures.0 ∙ ap (λ (b : Bool). number_of_codes (code 7 (c.args.known && b))) c.has_07.ensures)
      (c.flag-3.ensures.0 ∙ ap (λ (b : Bool). number_of_codes (code 8 (c.args.known && b))) c.has_08.ensures))),
  omega (arith, c.flag.ensures.1, c.flag-2.ensures.1, c.flag-3.ensures.1),
)
