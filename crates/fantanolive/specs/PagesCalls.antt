-- The exported C function of document 02, item 12: what it returns and what it leaves in its result number and the buffer lent, over the outcome of
-- the call beneath it. Assumes nothing.
use Rattle.std.specs.Prelude.{ℕ, List}
use Rattle.answers.specs.Answer.{Returned, returned}
use Rattle.layout.specs.Limits.{max_rows}
use Rattle.pages.specs.Pages.{pages_outcome}

-- how many pages there are, and every byte of the buffer
unfoldable pub pages_left : List ℕ → ℕ → List ℕ → ℕ → Returned ℕ (List ℕ)
pages_left master rows out pages = returned (λ n. n) pages (pages_outcome max_rows master rows out)
