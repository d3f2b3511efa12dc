-- `detail_totals::total`: behind refusal 5 there is a last record to leave out, and the others are few enough to be added up. Assumes
-- nothing.
use mathlib.Core.Path.{sym, ◌∙◌}
use native.Mathlib.Omega.{arith}
use Rattle.layout.specs.Limits.{max_rows}
use Rattle.layout.proofs.LimitsLaws.{few_records}
use Rattle.batchfile.proofs.RefusalsLaws.{whole_batch}
use Rattle.totalling.proofs.DetailTotalsLaws.{totals_refused, totals_done}
use Rattle.totalling.proofs.detail_totals.total.Goals as goal

pub returns-then-is_wrong_length : goal.returns-then-is_wrong_length
returns-then-is_wrong_length c = totals_refused max_rows _ (sym c.is_wrong_length.ensures ∙ c.if-is_wrong_length.true)

pub overflow_sub-details : goal.overflow_sub-details
overflow_sub-details c =
    let w = whole_batch max_rows c.args.batch.now (sym c.is_wrong_length.ensures ∙ c.if-is_wrong_length.false) in
    omega arith

pub totals_of-t-requires : goal.totals_of-t-requires
totals_of-t-requires c =
    let w = whole_batch max_rows c.args.batch.now (sym c.is_wrong_length.ensures ∙ c.if-is_wrong_length.false) in
    (omega arith, omega (arith, w.few, few_records))

pub returns : goal.returns
returns c =
    totals_done max_rows c.args.batch.now (sym c.is_wrong_length.ensures ∙ c.if-is_wrong_length.false)
    c.totals_of-t.result c.totals_of-t.ensures
