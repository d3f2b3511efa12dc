-- The exported C functions of document 02, item 8: what each returns and what it leaves in every buffer lent, over the outcome of the call beneath it.
-- Assumes nothing.
use Rattle.std.specs.Prelude.{ℕ, List, [], ◌∷◌, ◌++◌}
use Rattle.answers.specs.Answer.{Returned, returned}
use Rattle.layout.specs.Limits.{max_rows}
use Rattle.takeback.specs.TakeBack.{take_back_outcome}
use Rattle.journaledapply.specs.Journaled.{JournaledCall, JournaledResult, JournaledBuffers, journaled_outcome}
use Rattle.fantanolive.specs.Calls.{apply_numbers}

-- ---- fantanolive_apply_journaled

-- the five result numbers of `fantanolive_apply` and the journal's length
abbrev pub journaled_numbers : JournaledResult → List ℕ
journaled_numbers r = apply_numbers r.applied ++ (r.written ∷ [])

-- with the result numbers as they were
unfoldable pub journaled_left : JournaledCall → List ℕ → Returned (List ℕ) JournaledBuffers
journaled_left j result = returned journaled_numbers result (journaled_outcome j)

-- ---- fantanolive_take_back

-- the row count, and every byte of the master
unfoldable pub take_back_left : List ℕ → ℕ → List ℕ → ℕ → Returned ℕ (List ℕ)
take_back_left master rows journal after = returned (λ n. n) after (take_back_outcome max_rows master rows journal)
