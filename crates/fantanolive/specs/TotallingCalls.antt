-- The exported C function that adds up the totals of a batch's details: what it returns and what it leaves, over the answer of the call
-- beneath it. Assumes nothing.
use Rattle.std.specs.Prelude.{ℕ, List, [], ◌∷◌}
use Rattle.answers.specs.Answer.{Answer, refusal_number, numbers_of}
use Rattle.layout.specs.Limits.{max_rows}
use Rattle.batchfile.specs.Stated.{Stated}
use Rattle.totalling.specs.DetailTotals.{totals_answer}

-- the four totals in the control record's order
abbrev pub totals_list : Stated → List ℕ
totals_list t = t.tanf_count ∷ t.non_tanf_count ∷ t.tanf_amount ∷ t.non_tanf_amount ∷ []

-- the number returned, and the totals; a refusal leaves them alone
pub record TotalsLeft : Type 0 where
  pub number : ℕ
  pub totals : List ℕ

abbrev pub totals_left_by : Answer Stated → List ℕ → TotalsLeft
totals_left_by answer kept = record { number = refusal_number answer; totals = numbers_of totals_list kept answer }

unfoldable pub totals_left : List ℕ → List ℕ → TotalsLeft
totals_left batch kept = totals_left_by (totals_answer max_rows batch) kept
