-- `totals::are_amounts_right`: the control record's totals are digits, so its fields have numbers to compare. Assumes nothing.
use native.Mathlib.Omega.{arith}
use borrow.Author.Rules.{rules}
use Rattle.batchfile.proofs.ControlLaws.{control_digits}
use Rattle.batchfile.proofs.totals.are_amounts_right.Goals as goal

pub number_at-tanf-requires : goal.number_at-tanf-requires
number_at-tanf-requires c =
    (search rules, search rules, control_digits 24 34 _ c.requires (omega arith) (omega arith) (omega arith))

pub number_at-non_tanf-requires : goal.number_at-non_tanf-requires
number_at-non_tanf-requires c =
    (search rules, search rules, control_digits 35 45 _ c.requires (omega arith) (omega arith) (omega arith))

pub returns : goal.returns
returns c = rw (c.number_at-non_tanf.ensures.0, c.number_at-tanf.ensures.0)
