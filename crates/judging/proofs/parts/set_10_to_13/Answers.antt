-- `parts::set_10_to_13` meets its contract: the number of a list of codes is the sum of their flags, each at most 2 to the power of its code. Assumes nothing.
use mathlib.Core.Bool.{Bool, ◌&&◌}
use mathlib.Core.List.{◌++◌}
use mathlib.Core.Path.{ap, ◌∙◌}
use native.Mathlib.Omega.{arith}
use Rattle.layout.specs.Codes.{number_of_codes}
use Rattle.judging.specs.Errors.{error10, error11, error12, error13, code}
use Rattle.judging.proofs.CodeSums.{sum-code}
use Rattle.judging.proofs.parts.set_10_to_13.Goals as goal

pub returns : goal.returns
returns c = (
  (sum-code 10 (c.args.known && error10 c.args.locals.list.now c.args.rec.now) (code 11 (c.args.known && error11 c.args.rec.now) ++ (code 12 (c.args.known && error12 c.args.rec.now) ++ code 13 (c.args.known && error13 c.args.year c.args.rec.now))) _ _ (c.flag.ensures.0 ∙ ap (λ (b : Bool). number_of_codes (code 10 (c.args.known && b))) c.has_10.ensures)
      (sum-code 11 (c.args.known && error11 c.args.rec.now) (code 12 (c.args.known && error12 c.args.rec.now) ++ code 13 (c.args.known && error13 c.args.year c.args.rec.now)) _ _ (c.flag-2.ensures.0 ∙ ap (λ (b : Bool). number_of_codes (code 11 (c.args.known && b))) c.has_11.ensures)
      (sum-code 12 (c.args.known && error12 c.args.rec.now) (code 13 (c.args.known && error13 c.args.year c.args.rec.now)) _ _ (c.flag-3.ensures.0 ∙ ap (λ (b : Bool). number_of_codes (code 12 (c.args.known && b))) c.has_12.ensures)
      (c.flag-4.ensures.0 ∙ ap (λ (b : Bool). number_of_codes (code 13 (c.args.known && b))) c.has_13.ensures)))),
  omega (arith, c.flag.ensures.1, c.flag-2.ensures.1, c.flag-3.ensures.1, c.flag-4.ensures.1),
)
