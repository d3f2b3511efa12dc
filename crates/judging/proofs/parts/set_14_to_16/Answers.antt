-- `parts::set_14_to_16` meets its contract: the number of a list of codes is the sum of their flags, each at most 2 to the power of its code. Assumes nothing.
use mathlib.Core.Bool.{Bool, ◌&&◌}
use mathlib.Core.List.{◌++◌}
use mathlib.Core.Path.{ap, ◌∙◌}
use native.Mathlib.Omega.{arith}
use Rattle.layout.specs.Codes.{number_of_codes}
use Rattle.judging.specs.Errors.{error14, error15, error16, code}
use Rattle.judging.proofs.CodeSums.{sum-code}
use Rattle.judging.proofs.parts.set_14_to_16.Goals as goal

pub returns : goal.returns
returns c = (
  (sum-code 14 (c.args.known && error14 c.args.rec.now) (code 15 (c.args.known && error15 c.args.rec.now) ++ code 16 (c.args.known && error16 c.args.rec.now)) _ _ (c.flag.ensures.0 ∙ ap (λ (b : Bool). number_of_codes (code 14 (c.args.known && b))) c.has_14.ensures)
      (sum-code 15 (c.args.known && error15 c.args.rec.now) (code 16 (c.args.known && error16 c.args.rec.now)) _ _ (c.flag-2.ensures.0 ∙ ap (λ (b : Bool). number_of_codes (code 15 (c.args.known && b))) c.has_15.ensures)
      (c.flag-3.ensures.0 ∙ ap (λ (b : Bool). number_of_codes (code 16 (c.args.known && b))) c.has_16.ensures))),
  omega (arith, c.flag.ensures.1, c.flag-2.ensures.1, c.flag-3.ensures.1),
)
