-- `merge::cannot_merge`: the tests are those of refusal 32. Assumes nothing.
use Rattle.layout.specs.Limits.{max_rows}
use Rattle.layout.specs.ChartA2.{control_state}
use Rattle.layout.proofs.LimitsLaws.{max_records}
use Rattle.text.specs.Fields.{same_bytes}
use Rattle.batchfile.specs.Stated.{stated_by, stated_sum, totals_in}
use mathlib.Core.Path.{◌∙◌, sym, ap, ap₂}
use mathlib.Core.List.{List}
use Prim.Native.Nat.{ℕ}
use Rattle.batchfile.specs.Totals.{has_totals}
use Rattle.batchfile.proofs.RefusalsLaws.{batch_known}
use Rattle.merging.proofs.MergeLaws.{cannot_told}
use Rattle.merging.proofs.merge.cannot_merge.Goals as goal

pub summed_totals-t-requires : goal.summed_totals-t-requires
summed_totals-t-requires c = (
  ap has_totals c.control_of-a.ensures ∙ (batch_known max_rows _ 0 c.requires.0).0.totals,
  ap has_totals c.control_of-b.ensures ∙ (batch_known max_rows _ 0 c.requires.1).0.totals,
)

pub returns : goal.returns
returns c =
    let a = c.args in
    let ea = c.control_of-a.ensures in
    let eb = c.control_of-b.ensures in
    cannot_told max_rows a.first.now a.second.now _ 16777216 _ (totals_in c.summed_totals-t.result) (sym max_records)
    (c.same-same.ensures ∙ ap₂ same_bytes (c.field.ensures ∙ ap control_state ea) (c.field-2.ensures ∙ ap control_state eb))
    c.merged_count-many.ensures
    (c.summed_totals-t.ensures ∙ ap₂ (λ (x y : List ℕ). stated_sum (stated_by x) (stated_by y)) ea eb)
