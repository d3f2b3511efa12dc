-- Document 02, item 13: two batches into one. The outcome of the call, down to every byte lent. Assumes nothing.
use Rattle.std.specs.Prelude.{ℕ, ◌+◌, ◌≡◌, List, [], ◌∷◌, ◌++◌, Bool, not, ◌||◌, ltb, length, Result}
use Rattle.answers.specs.Answer.{refuse_if, Answer, refused, done, Outcome, Run, outcome_by}
use Rattle.answers.specs.Refusal.{answer_in}
use Rattle.answers.specs.declared.refusal.Refusal.{Refusal}
use Rattle.text.specs.Blocks.{joined, over}
use Rattle.text.specs.Fields.{same_bytes}
use Rattle.layout.specs.Limits.{max_rows}
use Rattle.layout.specs.Batch.{detail_count, details_of, control_of, submitting_state}
use Rattle.batchfile.specs.Refusals.{batch_refusal}
use Rattle.batchfile.specs.Stated.{Stated, stated_by, stated_sum, totals_record}

-- ---- the merged batch

-- summed totals: the sums of what the two control records state
abbrev pub merged_totals : List ℕ → List ℕ → Stated
merged_totals first second = stated_sum (stated_by (control_of first)) (stated_by (control_of second))

-- a control record with summed totals
unfoldable pub merged_control : List ℕ → List ℕ → List ℕ
merged_control first second = totals_record (submitting_state first) (merged_totals first second)

-- the first's details, the second's, and a control record
unfoldable pub merged_batch : List ℕ → List ℕ → List ℕ
merged_batch first second = joined (details_of first ++ details_of second ++ merged_control first second ∷ [])

-- how many records it has
abbrev pub merged_count : List ℕ → List ℕ → ℕ
merged_count first second = detail_count first + detail_count second + 1

-- ---- the refusals

-- above eleven digits
abbrev pub is_above_eleven : ℕ → Bool
is_above_eleven amount = ltb 99999999999 amount

-- 32: two different states, over the limit (16,777,215) of details, or an amount total above eleven digits
unfoldable pub refusal32 : ℕ → List ℕ → List ℕ → Bool
refusal32 limit first second =
    not (same_bytes (submitting_state first) (submitting_state second))
    || ltb limit (detail_count first + detail_count second)
    || (is_above_eleven (merged_totals first second).tanf_amount || is_above_eleven (merged_totals first second).non_tanf_amount)

-- 33: an output shorter than the result
unfoldable pub refusal33 : List ℕ → List ℕ → List ℕ → Bool
refusal33 first second out = ltb (length out) (length (merged_batch first second))

-- 32, then 33; 0 where none of them holds
abbrev pub both_refusal : ℕ → List ℕ → List ℕ → List ℕ → ℕ
both_refusal limit first second out = refuse_if (refusal32 limit first second) 32 (refuse_if (refusal33 first second out) 33 0)

-- the first input, then the second, passes 5 to 8 with 20 and 21; then 32 and 33
unfoldable pub merge_refusal : ℕ → List ℕ → List ℕ → List ℕ → ℕ
merge_refusal limit first second out = batch_refusal limit first (batch_refusal limit second (both_refusal limit first second out))

-- ---- the outcome

-- all that is lent to a call
pub record MergeCall : Type 0 where
  pub first : List ℕ
  pub second : List ℕ
  pub out : List ℕ
  -- the most details, which refusals 5 and 32 take; nothing else does
  pub limit : ℕ

-- the call, from what is lent, with the limit that the code has
abbrev pub merge_call : List ℕ → List ℕ → List ℕ → MergeCall
merge_call first second out = record { first = first; second = second; out = out; limit = max_rows }

-- the answer: how many records the merged batch has, or a refusal's number
abbrev pub merge_answer : Result ℕ Refusal → Answer ℕ
merge_answer r = answer_in (λ n. n) r

-- the answer and the output
abbrev pub MergeOutcome : Type 0
MergeOutcome = Outcome ℕ (List ℕ)

abbrev pub merged_as : Result ℕ Refusal → List ℕ → MergeOutcome
merged_as answer out = record { answer = merge_answer answer; buffers = out }

-- the merged batch at the front of the output and the bytes behind it kept
abbrev pub merge_run : MergeCall → Run ℕ (List ℕ)
merge_run c = record { result = merged_count c.first c.second; buffers = over (merged_batch c.first c.second) c.out }

unfoldable pub merge_outcome : MergeCall → MergeOutcome
merge_outcome c = outcome_by (merge_refusal c.limit c.first c.second c.out) c.out (merge_run c)

-- what a call leaves: the promise of `merge`
pub record IsMerge (c : MergeCall) (o : MergeOutcome) : Type 0 where
  pub is : o ≡ merge_outcome c

-- the record count of an answer; a refusal has none, and is never asked
abbrev pub records_written : Answer ℕ → ℕ
records_written (done n) = n
records_written (refused n) = 0
