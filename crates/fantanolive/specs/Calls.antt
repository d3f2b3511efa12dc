-- The exported C functions: what each returns and what it leaves in every buffer lent, over the outcome of the call beneath it.
-- Assumes nothing.
use Rattle.std.specs.Prelude.{ℕ, List, [], ◌∷◌}
use Rattle.answers.specs.Answer.{Answer, refusal_number, numbers_of, Returned, returned}
use Rattle.layout.specs.Limits.{max_rows}
use Rattle.batch.specs.Apply.{ApplyResult, ApplyBuffers, apply_outcome}
use Rattle.lookup.specs.Find.{find_answer}
use Rattle.reconciliation.specs.Reconcile.{reconcile_outcome}
use Rattle.batch.specs.Call.{Call}

-- ---- fantanolive_apply

-- the five result numbers
abbrev pub apply_numbers : ApplyResult → List ℕ
apply_numbers r = r.accepted ∷ r.rejected ∷ r.warned ∷ r.neither ∷ r.rows ∷ []

-- with the result numbers as they were
unfoldable pub apply_left : Call → List ℕ → Returned (List ℕ) ApplyBuffers
apply_left c result = returned apply_numbers result (apply_outcome c)

-- ---- fantanolive_find

-- the number returned, and the place; a refusal leaves it alone
pub record FindLeft : Type 0 where
  pub number : ℕ
  pub place : ℕ

abbrev pub find_left_by : Answer ℕ → ℕ → FindLeft
find_left_by answer kept = record { number = refusal_number answer; place = numbers_of (λ p. p) kept answer }

unfoldable pub find_left : List ℕ → ℕ → List ℕ → ℕ → FindLeft
find_left master rows key place = find_left_by (find_answer max_rows master rows key) place

-- ---- fantanolive_reconcile

-- the number of REC records, and every byte of the buffer
unfoldable pub reconcile_left : List ℕ → ℕ → List ℕ → List ℕ → List ℕ → ℕ → Returned ℕ (List ℕ)
reconcile_left master rows state date out records = returned (λ n. n) records (reconcile_outcome max_rows master rows state date out)
