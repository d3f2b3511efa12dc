-- `refusals::batch_refusal`: each answer stands behind the tests before it, and a whole batch has a control record to read. Assumes
-- nothing.
use mathlib.Core.Path.{sym, ◌∙◌}
use native.Mathlib.Omega.{arith}
use borrow.Author.Tests.{not-true, not-false}
use Rattle.layout.specs.Limits.{max_rows}
use Rattle.batchfile.proofs.RefusalsLaws.{whole_batch, summed_details, answer_5, answer_6, answer_20, answer_21, answer_7, answer_8, answer_0}
use Rattle.batchfile.proofs.refusals.batch_refusal.Goals as goal

pub returns-then-is_wrong_length : goal.returns-then-is_wrong_length
returns-then-is_wrong_length c = answer_5 max_rows _ (sym c.is_wrong_length.ensures ∙ c.if-is_wrong_length.true)

pub overflow_sub-details : goal.overflow_sub-details
overflow_sub-details c =
    let w = whole_batch max_rows c.args.batch.now (sym c.is_wrong_length.ensures ∙ c.if-is_wrong_length.false) in
    omega arith

pub record_at-control-requires : goal.record_at-control-requires
record_at-control-requires c =
    let w = whole_batch max_rows c.args.batch.now (sym c.is_wrong_length.ensures ∙ c.if-is_wrong_length.false) in
    omega arith

pub returns-then-not-has_ctl : goal.returns-then-not-has_ctl
returns-then-not-has_ctl c =
    answer_6 max_rows c.args.batch.now c.record_at-control.result (sym c.is_wrong_length.ensures ∙ c.if-is_wrong_length.false)
    c.record_at-control.ensures (sym c.has_ctl.ensures ∙ not-true c.has_ctl.result c.if-not-has_ctl.true-raw)

pub returns-then-not-has_state : goal.returns-then-not-has_state
returns-then-not-has_state c =
    answer_20 max_rows c.args.batch.now c.record_at-control.result (sym c.is_wrong_length.ensures ∙ c.if-is_wrong_length.false)
    c.record_at-control.ensures (sym c.has_ctl.ensures ∙ not-false c.has_ctl.result c.if-not-has_ctl.false-raw)
    (sym c.has_state.ensures ∙ not-true c.has_state.result c.if-not-has_state.true-raw)

pub returns-then-not-has_totals : goal.returns-then-not-has_totals
returns-then-not-has_totals c =
    answer_21 max_rows c.args.batch.now c.record_at-control.result (sym c.is_wrong_length.ensures ∙ c.if-is_wrong_length.false)
    c.record_at-control.ensures (sym c.has_ctl.ensures ∙ not-false c.has_ctl.result c.if-not-has_ctl.false-raw)
    (sym c.has_state.ensures ∙ not-false c.has_state.result c.if-not-has_state.false-raw)
    (sym c.has_totals.ensures ∙ not-true c.has_totals.result c.if-not-has_totals.true-raw)

pub totals_of-t-requires : goal.totals_of-t-requires
totals_of-t-requires c =
    let w = whole_batch max_rows c.args.batch.now (sym c.is_wrong_length.ensures ∙ c.if-is_wrong_length.false) in
    (omega arith, summed_details _ w)

pub are_counts_right-requires : goal.are_counts_right-requires
are_counts_right-requires c =
    sym c.has_totals.ensures ∙ not-false c.has_totals.result c.if-not-has_totals.false-raw

pub returns-then-not-are_counts_right : goal.returns-then-not-are_counts_right
returns-then-not-are_counts_right c =
    answer_7 max_rows c.args.batch.now c.record_at-control.result (sym c.is_wrong_length.ensures ∙ c.if-is_wrong_length.false)
    c.record_at-control.ensures (sym c.has_ctl.ensures ∙ not-false c.has_ctl.result c.if-not-has_ctl.false-raw)
    (sym c.has_state.ensures ∙ not-false c.has_state.result c.if-not-has_state.false-raw)
    (sym c.has_totals.ensures ∙ not-false c.has_totals.result c.if-not-has_totals.false-raw)
    c.totals_of-t.result c.totals_of-t.ensures
    (sym c.are_counts_right.ensures ∙ not-true c.are_counts_right.result c.if-not-are_counts_right.true-raw)

pub are_amounts_right-requires : goal.are_amounts_right-requires
are_amounts_right-requires c =
    sym c.has_totals.ensures ∙ not-false c.has_totals.result c.if-not-has_totals.false-raw

pub returns-then-not-are_amounts_right : goal.returns-then-not-are_amounts_right
returns-then-not-are_amounts_right c =
    answer_8 max_rows c.args.batch.now c.record_at-control.result (sym c.is_wrong_length.ensures ∙ c.if-is_wrong_length.false)
    c.record_at-control.ensures (sym c.has_ctl.ensures ∙ not-false c.has_ctl.result c.if-not-has_ctl.false-raw)
    (sym c.has_state.ensures ∙ not-false c.has_state.result c.if-not-has_state.false-raw)
    (sym c.has_totals.ensures ∙ not-false c.has_totals.result c.if-not-has_totals.false-raw)
    c.totals_of-t.result c.totals_of-t.ensures
    (sym c.are_counts_right.ensures ∙ not-false c.are_counts_right.result c.if-not-are_counts_right.false-raw)
    (sym c.are_amounts_right.ensures ∙ not-true c.are_amounts_right.result c.if-not-are_amounts_right.true-raw)

pub returns : goal.returns
returns c =
    answer_0 max_rows c.args.batch.now c.record_at-control.result (sym c.is_wrong_length.ensures ∙ c.if-is_wrong_length.false)
    c.record_at-control.ensures (sym c.has_ctl.ensures ∙ not-false c.has_ctl.result c.if-not-has_ctl.false-raw)
    (sym c.has_state.ensures ∙ not-false c.has_state.result c.if-not-has_state.false-raw)
    (sym c.has_totals.ensures ∙ not-false c.has_totals.result c.if-not-has_totals.false-raw)
    c.totals_of-t.result c.totals_of-t.ensures
    (sym c.are_counts_right.ensures ∙ not-false c.are_counts_right.result c.if-not-are_counts_right.false-raw)
    (sym c.are_amounts_right.ensures ∙ not-false c.are_amounts_right.result c.if-not-are_amounts_right.false-raw)
