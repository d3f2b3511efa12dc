-- Document 02, item 8: applying may write a journal, its length in the result. Assumes nothing.
use Rattle.std.specs.Prelude.{ℕ, ◌≡◌, Bool, cond, List, eqb, ltb, length, Result}
use Rattle.answers.specs.Answer.{refuse_if, Answer, refused, done, Outcome, Run, outcome_by}
use Rattle.answers.specs.Refusal.{answer_in}
use Rattle.answers.specs.declared.refusal.Refusal.{Refusal}
use Rattle.text.specs.Blocks.{over}
use Rattle.layout.specs.Batch.{detail_count}
use Rattle.casemaster.specs.Master.{rows_of}
use Rattle.journal.specs.Journal.{journal_of, journal_bytes}
use Rattle.journal.specs.Space.{journal_space}
use Rattle.batch.specs.Call.{Call}
use Rattle.batch.specs.Refusals.{apply_refusal}
use Rattle.batch.specs.declared.apply.RunResult.{RunResult}
use Rattle.batch.specs.Journaling.{result_of}
use Rattle.batch.specs.Apply.{ApplyResult, ApplyBuffers, ApplyOutcome, buffers_lent, call_rows, apply_run}

-- all that is lent to a call: what `apply` is lent, and the journal's buffer
pub record JournaledCall : Type 0 where
  pub call : Call
  pub journal : List ℕ

abbrev pub with_journal : Call → List ℕ → JournaledCall
with_journal c journal = record { call = c; journal = journal }

-- 25: a journal buffer below 12 + 205 × (details) bytes
unfoldable pub refusal25 : List ℕ → List ℕ → Bool
refusal25 batch journal = ltb (length journal) (journal_space (detail_count batch))

-- checked after 11: the first refusal of `apply` that holds, else 25, 0 where none holds
unfoldable pub journaled_refusal : JournaledCall → ℕ
journaled_refusal j =
    cond (eqb (apply_refusal j.call) 0) (refuse_if (refusal25 j.call.batch j.journal) 25 0) (apply_refusal j.call)

-- the bytes of a call's journal: of its rows at entry and at the end
unfoldable pub call_journal : Call → List ℕ
call_journal c = journal_bytes (journal_of (rows_of c.rows c.master) (call_rows c))

-- the result: that of `apply`, and the journal's length
pub record JournaledResult : Type 0 where
  pub applied : ApplyResult
  pub written : ℕ

-- every buffer lent that can be written: those of `apply`, and the journal's
pub record JournaledBuffers : Type 0 where
  pub applied : ApplyBuffers
  pub journal : List ℕ

abbrev pub JournaledOutcome : Type 0
JournaledOutcome = Outcome JournaledResult JournaledBuffers

-- what each answer of the call stands for
abbrev pub journaled_answer : Result RunResult Refusal → Answer JournaledResult
journaled_answer r = answer_in (λ (x : RunResult). record { applied = result_of x; written = x.written }) r

-- the outcome, from what is answered
abbrev pub journaled_as : Result RunResult Refusal → List ℕ → List ℕ → List ℕ → List ℕ → JournaledOutcome
journaled_as answer master verdicts rejects journal =
    record {
      answer = journaled_answer answer;
      buffers = record { applied = record { master = master; verdicts = verdicts; rejects = rejects }; journal = journal };
    }

-- the buffers as they are lent
abbrev pub journaled_lent : JournaledCall → JournaledBuffers
journaled_lent j = record { applied = buffers_lent j.call; journal = j.journal }

-- what `apply` gives, with the journal from its buffer's first byte on and what stood behind it kept
abbrev pub journaled_run : JournaledCall → Run JournaledResult JournaledBuffers
journaled_run j =
    record {
      result = record { applied = (apply_run j.call).result; written = length (call_journal j.call) };
      buffers = record { applied = (apply_run j.call).buffers; journal = over (call_journal j.call) j.journal };
    }

unfoldable pub journaled_outcome : JournaledCall → JournaledOutcome
journaled_outcome j = outcome_by (journaled_refusal j) (journaled_lent j) (journaled_run j)

-- what a call leaves: the promise of `apply_journaled`
pub record IsJournaled (j : JournaledCall) (o : JournaledOutcome) : Type 0 where
  pub is : o ≡ journaled_outcome j

-- the journal's length of an answer; a refusal has none, and is never asked
abbrev pub length_written : Answer JournaledResult → ℕ
length_written (refused n) = 0
length_written (done r) = r.written

-- what is left beside the journal
abbrev pub answer_beside : Answer JournaledResult → Answer ApplyResult
answer_beside (refused n) = refused n
answer_beside (done r) = done r.applied

abbrev pub beside_journal : JournaledOutcome → ApplyOutcome
beside_journal o = record { answer = answer_beside o.answer; buffers = o.buffers.applied }
