-- `stated::summed_totals`: the columns of the totals are digits in both control records. Assumes nothing.
use borrow.Author.Rules.{rules}
use native.Mathlib.Omega.{arith}
use Rattle.batchfile.proofs.ControlLaws.{control_digits}
use Rattle.batchfile.proofs.stated.summed_totals.Goals as goal

pub sum_at-requires : goal.sum_at-requires
sum_at-requires c =
    (search rules, search rules, search rules, search rules, control_digits 6 14 _ c.requires.0 (omega arith) (omega arith) (omega arith), control_digits 6 14 _ c.requires.1 (omega arith) (omega arith) (omega arith))

pub sum_at-requires-2 : goal.sum_at-requires-2
sum_at-requires-2 c =
    (search rules, search rules, search rules, search rules, control_digits 15 23 _ c.requires.0 (omega arith) (omega arith) (omega arith), control_digits 15 23 _ c.requires.1 (omega arith) (omega arith) (omega arith))

pub sum_at-requires-3 : goal.sum_at-requires-3
sum_at-requires-3 c =
    (search rules, search rules, search rules, search rules, control_digits 24 34 _ c.requires.0 (omega arith) (omega arith) (omega arith), control_digits 24 34 _ c.requires.1 (omega arith) (omega arith) (omega arith))

pub sum_at-requires-4 : goal.sum_at-requires-4
sum_at-requires-4 c =
    (search rules, search rules, search rules, search rules, control_digits 35 45 _ c.requires.0 (omega arith) (omega arith) (omega arith), control_digits 35 45 _ c.requires.1 (omega arith) (omega arith) (omega arith))

pub returns : goal.returns
returns c = rw (c.sum_at.ensures, c.sum_at-2.ensures, c.sum_at-3.ensures, c.sum_at-4.ensures)
