-- The exported C function of document 02, item 9: what it returns and what it leaves in its result number and every buffer lent, over the outcome of
-- the call beneath it. Assumes nothing.
use Rattle.std.specs.Prelude.{ℕ, List}
use Rattle.answers.specs.Answer.{Returned, returned}
use Rattle.layout.specs.Limits.{max_rows}
use Rattle.lookup.specs.Many.{many_outcome}

-- how many comparisons were made, and every place of the list
unfoldable pub many_left : List ℕ → ℕ → List ℕ → List ℕ → ℕ → Returned ℕ (List ℕ)
many_left master rows keys places comparisons = returned (λ n. n) comparisons (many_outcome max_rows master rows keys places)
