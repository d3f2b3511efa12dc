-- Document 01, "Applying a batch", refusals 5 to 8, with 20 and 21 of document 02, item 5: those of every call that takes a batch, in
-- order. Assumes nothing.
use Rattle.std.specs.Prelude.{ℕ, ◌+◌, ◌/◌, ◌%◌, List, Bool, not, ◌||◌, eqb, ltb, length}
use Rattle.layout.specs.Batch.{details_of, control_of}
use Rattle.answers.specs.Answer.{refuse_if}
use Rattle.batchfile.specs.Totals.{has_ctl, has_state, has_totals, are_counts_right, are_amounts_right}

-- 5: batch empty, no multiple of 245, or over 16,777,216 records: one more than the limit
unfoldable pub refusal5 : ℕ → List ℕ → Bool
refusal5 limit batch = eqb (length batch) 0 || not (eqb (length batch % 245) 0) || ltb (limit + 1) (length batch / 245)

-- 6: CTL is missing
unfoldable pub refusal6 : List ℕ → Bool
refusal6 batch = not (has_ctl (control_of batch))

-- 20: a state not in the table
unfoldable pub refusal20 : List ℕ → Bool
refusal20 batch = not (has_state (control_of batch))

-- 21: a total that isn't digits or a filler that isn't spaces
unfoldable pub refusal21 : List ℕ → Bool
refusal21 batch = not (has_totals (control_of batch))

-- 7: a count differs
unfoldable pub refusal7 : List ℕ → Bool
refusal7 batch = not (are_counts_right (control_of batch) (details_of batch))

-- 8: an amount differs
unfoldable pub refusal8 : List ℕ → Bool
refusal8 batch = not (are_amounts_right (control_of batch) (details_of batch))

-- the first of 5, 6, 20, 21, 7 and 8 that holds, else what comes behind
unfoldable pub batch_refusal : ℕ → List ℕ → ℕ → ℕ
batch_refusal limit batch behind =
    refuse_if (refusal5 limit batch) 5
    (refuse_if (refusal6 batch) 6
    (refuse_if (refusal20 batch) 20
    (refuse_if (refusal21 batch) 21
    (refuse_if (refusal7 batch) 7
    (refuse_if (refusal8 batch) 8 behind)))))
