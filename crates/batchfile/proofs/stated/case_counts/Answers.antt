-- `stated::case_counts`: the control record is the last record, and its counts are those of the details. Assumes nothing.
use native.Mathlib.Omega.{arith}
use borrow.Author.Rules.{rules}
use Rattle.layout.specs.Batch.{control_of}
use Rattle.batchfile.proofs.ControlLaws.{control_digits, stated_counts}
use Rattle.batchfile.proofs.stated.case_counts.Goals as goal

pub number_at-requires : goal.number_at-requires
unfolding control_of
number_at-requires c =
    let t = rw (← c.record_at-control.ensures) at c.requires.1 in
    (search rules, search rules, control_digits 6 14 _ t (omega arith) (omega arith) (omega arith))

pub number_at-requires-2 : goal.number_at-requires-2
unfolding control_of
number_at-requires-2 c =
    let t = rw (← c.record_at-control.ensures) at c.requires.1 in
    (search rules, search rules, control_digits 15 23 _ t (omega arith) (omega arith) (omega arith))

pub returns : goal.returns
unfolding control_of
returns c =
    stated_counts _ _ _ _ _ c.requires.2 c.record_at-control.ensures c.number_at.ensures.0 c.number_at-2.ensures.0
