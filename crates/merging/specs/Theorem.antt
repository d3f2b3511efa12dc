-- Document 02, item 13: what every merge that is carried out leaves at the front of its output. Over any limit; the counts of nine digits
-- ask that it has no more than nine. Assumes nothing.
use Rattle.std.specs.Prelude.{ℕ, ◌*◌, ◌^◌, ◌<◌, ◌≡◌, List, ◌++◌, true, take}
use Rattle.answers.specs.Answer.{is_carried_out}
use Rattle.layout.specs.Batch.{details_of, submitting_state}
use Rattle.batchfile.specs.Refusals.{batch_refusal}
use Rattle.merging.specs.Merge.{MergeCall, MergeOutcome, IsMerge, records_written}

-- the batch that a merge wrote: as many records as its result says
abbrev pub batch_written : MergeOutcome → List ℕ
batch_written o = take (records_written o.answer * 245) o.buffers

-- the first's details, then the second's, under the state of both
pub record IsMergeOf (first second batch : List ℕ) : Type 0 where
  pub details : details_of batch ≡ details_of first ++ details_of second
  pub first_state : submitting_state batch ≡ submitting_state first
  pub second_state : submitting_state batch ≡ submitting_state second

abbrev pub EveryMerge : Type 0
EveryMerge =
    (c : MergeCall) (o : MergeOutcome)
    → IsMerge c o
    → is_carried_out o.answer ≡ true
    → IsMergeOf c.first c.second (batch_written o)

-- it passes 5, 6, 20, 21, 7 and 8, so that its totals are those of its details
abbrev pub MergePasses : Type 0
MergePasses =
    (c : MergeCall) (o : MergeOutcome)
    → IsMerge c o
    → is_carried_out o.answer ≡ true
    → c.limit < 10 ^ 9
    → batch_refusal c.limit (batch_written o) 0 ≡ 0
