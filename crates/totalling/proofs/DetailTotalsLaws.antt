-- Laws of the totals of a batch's details: the code's totals are the definition's. Assumes nothing.
use Prim.Native.Nat.{ℕ}
use mathlib.Core.Path.{◌≡◌, sym}
use mathlib.Core.Bool.{true, false}
use mathlib.Core.List.{List}
use Rattle.answers.specs.declared.refusal.Refusal.TheVariants.{WrongBatch}
use Rattle.answers.proofs.AnswerLaws.{answer_done}
use Rattle.answers.proofs.RefusalLaws.{answer_err}
use Rattle.std.specs.Prelude.{Ok, Err}
use Rattle.text.specs.Blocks.{blocks}
use Rattle.layout.specs.Batch.{detail_count, details_of}
use Rattle.batchfile.specs.Refusals.{refusal5}
use Rattle.batchfile.specs.TotalsParts.{AreTotals}
use Rattle.batchfile.specs.declared.totals.Totals.{Totals}
use Rattle.totalling.specs.DetailTotals.{detail_totals, totalled_as, totals_answer}

module _ (limit : ℕ) (batch : List ℕ) where
  pub totals_refused : refusal5 limit batch ≡ true → totalled_as (Err WrongBatch) ≡ totals_answer limit batch
  unfolding totals_answer
  totals_refused t = answer_err _ (detail_totals (details_of batch)) WrongBatch (sym (rw t))

  pub totals_done : refusal5 limit batch ≡ false → (t : Totals) → AreTotals (blocks 245 (detail_count batch) batch) t
      → totalled_as (Ok t) ≡ totals_answer limit batch
  unfolding totals_answer details_of
  totals_done f t a =
      rw (a.tanf_count, a.non_tanf_count, a.tanf_amount, a.non_tanf_amount) (answer_done _ (detail_totals (blocks 245 (detail_count batch) batch)) (rw f))
