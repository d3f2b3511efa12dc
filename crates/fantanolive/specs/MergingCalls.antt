-- The exported C function of document 02, item 13: what it returns and what it leaves in every buffer lent, over the outcome of the call beneath it.
-- Assumes nothing.
use Rattle.std.specs.Prelude.{ℕ, List}
use Rattle.answers.specs.Answer.{Returned, returned}
use Rattle.merging.specs.Merge.{MergeCall, merge_outcome}

-- how many records the merged batch has, and every byte of the output
unfoldable pub merge_left : MergeCall → ℕ → Returned ℕ (List ℕ)
merge_left c records = returned (λ n. n) records (merge_outcome c)
