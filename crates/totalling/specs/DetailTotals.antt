-- A call that is ours and not the papers': the totals that refusals 7 and 8 hold against a control record, as a batch's details give them,
-- whatever its last record says. Assumes nothing.
use Rattle.std.specs.Prelude.{ℕ, List, Result}
use Rattle.answers.specs.Answer.{refuse_if, Answer, answer_by}
use Rattle.answers.specs.Refusal.{answer_in}
use Rattle.answers.specs.declared.refusal.Refusal.{Refusal}
use Rattle.text.specs.Characters.{A, N}
use Rattle.layout.specs.Batch.{details_of}
use Rattle.batchfile.specs.Totals.{count_of, amount_of}
use Rattle.batchfile.specs.Refusals.{refusal5}
use Rattle.batchfile.specs.Stated.{Stated}
use Rattle.batchfile.specs.declared.totals.Totals.{Totals}

-- the totals of some details, in the control record's order: the number of each case type, and the amounts of A and M records of each
abbrev pub detail_totals : List (List ℕ) → Stated
detail_totals details =
    record {
      tanf_count = count_of A details;
      non_tanf_count = count_of N details;
      tanf_amount = amount_of A details;
      non_tanf_amount = amount_of N details;
    }

-- what each answer of the call stands for: the four totals, or a refusal's number
abbrev pub totalled_as : Result Totals Refusal → Answer Stated
totalled_as r =
    answer_in
    (λ (t : Totals). record {
      tanf_count = t.tanf_count;
      non_tanf_count = t.non_tanf_count;
      tanf_amount = t.tanf_amount;
      non_tanf_amount = t.non_tanf_amount;
    })
    r

-- refused by 5 alone, else the totals of the details; no buffer can be written
unfoldable pub totals_answer : ℕ → List ℕ → Answer Stated
totals_answer limit batch = answer_by (refuse_if (refusal5 limit batch) 5 0) (detail_totals (details_of batch))
