-- `parts::set_first` meets its contract: the number of a list of codes is the sum of their flags, each at most 2 to the power of its code. Assumes nothing.
use mathlib.Core.List.{◌++◌}
use native.Mathlib.Omega.{arith}
use Rattle.judging.specs.Errors.{code}
use Rattle.judging.proofs.CodeSums.{sum-code}
use Rattle.judging.proofs.parts.set_first.Goals as goal

pub returns : goal.returns
returns c = (
  (sum-code 1 c.args.f.state (code 2 c.args.f.ssn ++ (code 3 c.args.f.kind ++ (code 4 c.args.f.case_type ++ code 5 c.args.f.name))) _ _ c.flag.ensures.0
      (sum-code 2 c.args.f.ssn (code 3 c.args.f.kind ++ (code 4 c.args.f.case_type ++ code 5 c.args.f.name)) _ _ c.flag-2.ensures.0
      (sum-code 3 c.args.f.kind (code 4 c.args.f.case_type ++ code 5 c.args.f.name) _ _ c.flag-3.ensures.0
      (sum-code 4 c.args.f.case_type (code 5 c.args.f.name) _ _ c.flag-4.ensures.0
      c.flag-5.ensures.0)))),
  omega (arith, c.flag.ensures.1, c.flag-2.ensures.1, c.flag-3.ensures.1, c.flag-4.ensures.1, c.flag-5.ensures.1),
)
