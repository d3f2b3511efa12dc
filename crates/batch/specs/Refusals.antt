-- Document 01, "Applying a batch": refused, in order. The refusals 3 and 4 are those of every call over a master, 5 to 8 with 20
-- and 21 those of every call that takes a batch. Assumes nothing.
use Rattle.std.specs.Prelude.{ℕ, ◌+◌, ◌*◌, ◌/◌, List, Bool, not, ◌||◌, ltb, length}
use Rattle.answers.specs.Answer.{refuse_if}
use Rattle.layout.specs.Locals.{is_local_list}
use Rattle.layout.specs.Batch.{detail_count, details_of}
use Rattle.casemaster.specs.Master.{rows_of}
use Rattle.casemaster.specs.Refusals.{master_refusal}
use Rattle.turns.specs.Adds.{adds_without_row}
use Rattle.batchfile.specs.Refusals.{batch_refusal}
use Rattle.batch.specs.Call.{Call}

-- 1: year outside 1900–9999
unfoldable pub refusal1 : ℕ → Bool
refusal1 year = ltb year 1900 || ltb 9999 year

-- 2: list not made of three-digit codes, three bytes each, strictly rising (an empty list passes)
unfoldable pub refusal2 : List ℕ → Bool
refusal2 locals = not (is_local_list locals)

-- 9: rows plus A records whose key has no row at entry exceed length ÷ 200 or the limit (16,777,215)
unfoldable pub refusal9 : ℕ → List ℕ → ℕ → List ℕ → Bool
refusal9 limit master rows batch =
    ltb (length master / 200) (rows + adds_without_row (rows_of rows master) (details_of batch))
    || ltb limit (rows + adds_without_row (rows_of rows master) (details_of batch))

-- 10: verdict list shorter than the details
unfoldable pub refusal10 : List ℕ → List ℕ → Bool
refusal10 batch verdicts = ltb (length verdicts) (detail_count batch)

-- 11: reject buffer below 245 × (details + 1)
unfoldable pub refusal11 : List ℕ → List ℕ → Bool
refusal11 batch rejects = ltb (length rejects) (245 * (detail_count batch + 1))

-- the first of 9, 10 and 11 that holds, 0 where none does
unfoldable pub space_refusal : Call → ℕ
space_refusal c =
    refuse_if (refusal9 c.limit c.master c.rows c.batch) 9
    (refuse_if (refusal10 c.batch c.verdicts) 10
    (refuse_if (refusal11 c.batch c.rejects) 11 0))

-- the first of 1 to 5, 6, 20, 21 and 7 to 11 that holds, 0 where none does
unfoldable pub apply_refusal : Call → ℕ
apply_refusal c =
    refuse_if (refusal1 c.year) 1
    (refuse_if (refusal2 c.locals) 2
    (master_refusal c.limit c.master c.rows (batch_refusal c.limit c.batch (space_refusal c))))
