-- Document 01, "Applying a batch": the outcome of the call, down to every byte lent. Assumes nothing.
use Rattle.std.specs.Prelude.{ℕ, ◌+◌, ◌≡◌, List, ◌++◌, length, Result}
use Rattle.answers.specs.Answer.{Answer, refused, done, Outcome, Run, outcome_by}
use Rattle.answers.specs.Refusal.{answer_in}
use Rattle.answers.specs.declared.refusal.Refusal.{Refusal}
use Rattle.text.specs.Blocks.{joined, over}
use Rattle.casemaster.specs.Master.{rows_of}
use Rattle.onecase.specs.Verdict.{Judgement}
use Rattle.turns.specs.Turns.{final_rows, verdicts_on}
use Rattle.rejectfile.specs.Rejects.{numbers, reject_records}
use Rattle.rejectfile.specs.Counts.{Counts, counts_of, control_record}
use Rattle.batch.specs.declared.apply.Applied.{Applied}
use Rattle.layout.specs.Batch.{details_of, submitting_state}
use Rattle.batch.specs.Call.{Call, call_settings}
use Rattle.batch.specs.Refusals.{apply_refusal}

-- the result: accepted, rejected and warned (each over both case types), neither and rows
pub record ApplyResult : Type 0 where
  pub accepted : ℕ
  pub rejected : ℕ
  pub warned : ℕ
  pub neither : ℕ
  pub rows : ℕ

-- every buffer lent that can be written
pub record ApplyBuffers : Type 0 where
  pub master : List ℕ
  pub verdicts : List ℕ
  pub rejects : List ℕ

abbrev pub ApplyOutcome : Type 0
ApplyOutcome = Outcome ApplyResult ApplyBuffers

-- what each answer of the call stands for
abbrev pub apply_answer : Result Applied Refusal → Answer ApplyResult
apply_answer r =
    answer_in (λ (a : Applied). record { accepted = a.accepted; rejected = a.rejected; warned = a.warned; neither = a.neither; rows = a.rows }) r

-- the outcome, from what is answered
abbrev pub applied_as : Result Applied Refusal → List ℕ → List ℕ → List ℕ → ApplyOutcome
applied_as answer master verdicts rejects =
    record { answer = apply_answer answer; buffers = record { master = master; verdicts = verdicts; rejects = rejects } }

-- the buffers as they are lent
abbrev pub buffers_lent : Call → ApplyBuffers
buffers_lent c = record { master = c.master; verdicts = c.verdicts; rejects = c.rejects }

-- the result of a run: accepted, rejected and warned over both case types, neither and rows
abbrev pub result_in : Counts → ℕ → ApplyResult
result_in counts rows =
    record {
      accepted = counts.accepted_tanf + counts.accepted_non_tanf;
      rejected = counts.rejected_tanf + counts.rejected_non_tanf;
      warned = counts.warned_tanf + counts.warned_non_tanf;
      neither = counts.neither;
      rows = rows;
    }

-- the rows, the numbers and the reject file written, with what stood behind each kept
abbrev pub run_with : List ℕ → List (List ℕ) → List (List ℕ) → List Judgement → Counts → Call → Run ApplyResult ApplyBuffers
run_with state rows details verdicts counts c =
    record {
      result = result_in counts (length rows);
      buffers =
          record {
            master = over (joined rows) c.master;
            verdicts = over (numbers verdicts) c.verdicts;
            rejects = over (joined (reject_records details verdicts) ++ control_record state counts) c.rejects;
          };
    }

-- the verdicts on the details of a call, in batch order
abbrev pub call_verdicts : Call → List Judgement
call_verdicts c = verdicts_on (call_settings c) (rows_of c.rows c.master) (details_of c.batch)

-- the rows after them
abbrev pub call_rows : Call → List (List ℕ)
call_rows c = final_rows (call_settings c) (rows_of c.rows c.master) (details_of c.batch)

-- what a call that is carried out gives
unfoldable pub apply_run : Call → Run ApplyResult ApplyBuffers
apply_run c =
    run_with (submitting_state c.batch) (call_rows c) (details_of c.batch) (call_verdicts c)
    (counts_of (details_of c.batch) (call_verdicts c)) c

unfoldable pub apply_outcome : Call → ApplyOutcome
apply_outcome c = outcome_by (apply_refusal c) (buffers_lent c) (apply_run c)

-- what a call leaves: the promise of `apply`, and what is assumed of two calls in demand 3
pub record IsOutcome (c : Call) (o : ApplyOutcome) : Type 0 where
  pub is : o ≡ apply_outcome c

-- the row count of an answer; a refusal has none, and is never asked
abbrev pub row_count : Answer ApplyResult → ℕ
row_count (refused n) = 0
row_count (done r) = r.rows

-- the rows that a batch leaves
abbrev pub rows_left : ApplyOutcome → List (List ℕ)
rows_left o = rows_of (row_count o.answer) o.buffers.master
