-- The totals of the details are the stated ones of a batch that passes, and a control record that states them is right. Assumes nothing.
use Prim.Native.Nat.{ℕ}
use mathlib.Core.Path.{◌≡◌, sym, ap, ◌∙◌}
use mathlib.Core.List.{List}
use Rattle.answers.specs.Answer.{done}
use Rattle.answers.proofs.AnswerLaws.{answer_done}
use Rattle.layout.specs.Batch.{details_of, control_of}
use Rattle.batchfile.specs.Refusals.{batch_refusal}
use Rattle.batchfile.specs.Stated.{stated_by}
use Rattle.batchfile.proofs.RefusalsLaws.{batch_known}
use Rattle.batchfile.proofs.PassesLaws.{totals_right, counts_right, amounts_right, whole_length}
use Rattle.totalling.specs.DetailTotals.{detail_totals, totals_answer}
use Rattle.totalling.specs.Theorem.{TotalsWanted}

stated_totals : (limit : ℕ) (batch : List ℕ) → batch_refusal limit batch 0 ≡ 0 → totals_answer limit batch ≡ done (stated_by (control_of batch))
unfolding totals_answer
stated_totals limit batch e =
    let k = (batch_known limit batch 0 e).0 in
    sym (answer_done _ (detail_totals (details_of batch)) (rw (whole_length limit batch k.whole))) ∙ ap done (sym (totals_right limit batch k))

pub totals_wanted : TotalsWanted
totals_wanted = record { stated = stated_totals; right = λ rec details e. (counts_right rec details e, amounts_right rec details e) }
