-- Document 02, item 8, over two whole calls: a batch applied with a journal and carried out, then taken back with the bytes that were written.
-- Over any limit. Assumes nothing.
use Rattle.std.specs.Prelude.{ℕ, suc, ◌+◌, ◌*◌, ◌^◌, ◌≤◌, ◌<◌, ◌≡◌, true, false, List, length, take, drop}
use Rattle.answers.specs.Answer.{is_carried_out}
use Rattle.layout.specs.Limits.{max_rows}
use Rattle.layout.specs.Batch.{detail_count}
use Rattle.batch.specs.Apply.{ApplyOutcome, IsOutcome}
use Rattle.journaledapply.specs.Journaled.{JournaledCall, JournaledOutcome, IsJournaled, refusal25, call_journal, length_written, beside_journal}
use Rattle.takingback.specs.TakenBack.{HasRowsLeft, taken_back, as_before}

-- the journal that a call left at the front of its buffer
abbrev pub journal_written : JournaledOutcome → List ℕ
journal_written o = take (length_written o.answer) o.buffers.journal

-- a call with a journal that is carried out
pub record IsDone (j : JournaledCall) (o : JournaledOutcome) : Type 0 where
  pub is : IsJournaled j o
  pub done : is_carried_out o.answer ≡ true

-- the bytes that it wrote take it back, from every master with the rows and the row count that it left. Document 02, item 14, asks this of a
-- buffer with room for the journal (`HasRoom` below); nothing is asked of the buffer here
abbrev pub EveryJournaledBatch : Type 0
EveryJournaledBatch =
    (j : JournaledCall) (o : JournaledOutcome) → IsDone j o → (master : List ℕ) → HasRowsLeft j.call (beside_journal o) master
    → taken_back j.call (beside_journal o) master (journal_written o) ≡ as_before j.call master

-- ---- the journal's buffer

-- it has room for the journal
abbrev pub HasRoom : JournaledCall → Type 0
HasRoom j = length (call_journal j.call) ≤ length j.journal

-- with room it stays as long as it was, the journal is its first bytes, and the bytes behind the journal are kept
pub record InBuffer (j : JournaledCall) (o : JournaledOutcome) : Type 0 where
  pub same_length : length o.buffers.journal ≡ length j.journal
  pub is : journal_written o ≡ call_journal j.call
  pub kept : drop (length_written o.answer) o.buffers.journal ≡ drop (length_written o.answer) j.journal

abbrev pub EveryBuffer : Type 0
EveryBuffer = (j : JournaledCall) (o : JournaledOutcome) → IsDone j o → HasRoom j → InBuffer j o

-- where each row count up to the limit has at most k + 1 groups: at most 2 × (k + 1) + (k + 202) × (details) bytes
abbrev pub JournalLength : Type 0
JournalLength =
    (j : JournaledCall) (o : JournaledOutcome) → IsDone j o → (k : ℕ) → j.call.limit < 128 ^ suc k
    → length (call_journal j.call) ≤ suc k + suc k + (suc k + 201) * detail_count j.call.batch

-- so 12 + 205 × (details) is room at the limit of the code
abbrev pub EnoughRoom : Type 0
EnoughRoom = (j : JournaledCall) (o : JournaledOutcome) → IsDone j o → j.call.limit ≤ max_rows → HasRoom j

-- ---- beside `apply`

-- the same master, verdicts, rejects and counts, and the same refusals, where 25 doesn't hold
abbrev pub SameAsPlain : Type 0
SameAsPlain =
    (j : JournaledCall) (o : JournaledOutcome) (p : ApplyOutcome) → IsJournaled j o → IsOutcome j.call p
    → refusal25 j.call.batch j.journal ≡ false → beside_journal o ≡ p

-- so where it is carried out
abbrev pub DoneAsPlain : Type 0
DoneAsPlain = (j : JournaledCall) (o : JournaledOutcome) (p : ApplyOutcome) → IsDone j o → IsOutcome j.call p → beside_journal o ≡ p
