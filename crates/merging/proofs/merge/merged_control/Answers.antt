-- `merge::merged_control`: the state of the first and the summed totals. Assumes nothing.
use Rattle.layout.specs.Limits.{max_rows}
use mathlib.Core.Path.{◌∙◌, ap, ap₂}
use Prim.Native.Nat.{ℕ}
use mathlib.Core.List.{List}
use lib.ListN.{length}
use Rattle.batchfile.specs.Totals.{has_totals}
use Rattle.batchfile.proofs.RefusalsLaws.{batch_known}
use Rattle.layout.specs.ChartA2.{control_state}
use Rattle.batchfile.specs.Stated.{stated_by, stated_sum, totals_record}
use Rattle.merging.specs.Merge.{merged_control}
use Rattle.batchfile.proofs.PassesLaws.{state_two}
use Rattle.merging.proofs.merge.merged_control.Goals as goal

pub summed_totals-t-requires : goal.summed_totals-t-requires
summed_totals-t-requires c = (
  ap has_totals c.control_of-a.ensures ∙ (batch_known max_rows _ 0 c.requires.0).0.totals,
  ap has_totals c.control_of-b.ensures ∙ (batch_known max_rows _ 0 c.requires.1).0.totals,
)

pub totals_record-requires : goal.totals_record-requires
totals_record-requires c =
    ap length (c.field.ensures ∙ ap control_state c.control_of-a.ensures) ∙ state_two max_rows _ (batch_known max_rows _ 0 c.requires.0).0

pub returns : goal.returns
unfolding merged_control
returns c =
    c.totals_record.ensures
    ∙ ap₂ totals_record (c.field.ensures ∙ ap control_state c.control_of-a.ensures)
    (c.summed_totals-t.ensures ∙ ap₂ (λ (x y : List ℕ). stated_sum (stated_by x) (stated_by y)) c.control_of-a.ensures c.control_of-b.ensures)
