-- What the totals of the details have to do with those that a control record states. Over any limit. Assumes nothing.
use Rattle.std.specs.Prelude.{ℕ, ◌≡◌, List, true}
use Rattle.answers.specs.Answer.{done}
use Rattle.layout.specs.Batch.{control_of}
use Rattle.batchfile.specs.Totals.{are_counts_right, are_amounts_right}
use Rattle.batchfile.specs.Refusals.{batch_refusal}
use Rattle.batchfile.specs.Stated.{stated_by}
use Rattle.totalling.specs.DetailTotals.{detail_totals, totals_answer}

pub record TotalsWanted : Type 0 where
  -- of a batch that passes 5 to 8 with 20 and 21 they are the stated ones
  pub stated : (limit : ℕ) (batch : List ℕ) → batch_refusal limit batch 0 ≡ 0 → totals_answer limit batch ≡ done (stated_by (control_of batch))
  -- a control record that states them has the counts and amounts that 7 and 8 ask for
  pub right : (rec : List ℕ) (details : List (List ℕ)) → stated_by rec ≡ detail_totals details
      → (are_counts_right rec details ≡ true) × (are_amounts_right rec details ≡ true)
