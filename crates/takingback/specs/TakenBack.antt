-- Document 02, item 8: for every batch carried out, taking it back with its journal, from the master it left, gives the old row count and rows;
-- bytes past them are kept. Over any limit and any buffer: nothing is said of how the journal came there.
-- Assumes nothing.
use Rattle.std.specs.Prelude.{ℕ, ◌≡◌, true, false, List}
use Rattle.answers.specs.Answer.{is_carried_out, done}
use Rattle.text.specs.Blocks.{joined, over}
use Rattle.casemaster.specs.Master.{rows_of}
use Rattle.casemaster.specs.Refusals.{refusal3}
use Rattle.journal.specs.Journal.{journal_of, journal_bytes}
use Rattle.takeback.specs.TakeBack.{TakeBackOutcome, take_back_outcome}
use Rattle.batch.specs.Call.{Call}
use Rattle.batch.specs.Apply.{ApplyOutcome, IsOutcome, row_count, rows_left}

-- the rows at entry
abbrev pub rows_at_entry : Call → List (List ℕ)
rows_at_entry c = rows_of c.rows c.master

-- the journal of the call
abbrev pub journal_left : Call → ApplyOutcome → List ℕ
journal_left c o = journal_bytes (journal_of (rows_at_entry c) (rows_left o))

-- a master with the rows and the row count that the batch left; its buffer may be of another length, if 3 lets it pass, and the bytes behind
-- the rows may be any
pub record HasRowsLeft (c : Call) (o : ApplyOutcome) (master : List ℕ) : Type 0 where
  pub rows : rows_of (row_count o.answer) master ≡ rows_left o
  pub passes_3 : refusal3 c.limit master (row_count o.answer) ≡ false

-- taking back with a journal, from such a master
abbrev pub taken_back : Call → ApplyOutcome → List ℕ → List ℕ → TakeBackOutcome
taken_back c o master journal = take_back_outcome c.limit master (row_count o.answer) journal

-- carried out, with the old row count and the old rows; the bytes past them are those of the master handed in
abbrev pub as_before : Call → List ℕ → TakeBackOutcome
as_before c master = record { answer = done c.rows; buffers = over (joined (rows_at_entry c)) master }

abbrev pub EveryBatch : Type 0
EveryBatch =
    (c : Call) (o : ApplyOutcome) → IsOutcome c o → is_carried_out o.answer ≡ true → (master : List ℕ) → HasRowsLeft c o master
    → taken_back c o master (journal_left c o) ≡ as_before c master

-- the master that the batch left is such a one
abbrev pub LeavesRows : Type 0
LeavesRows = (c : Call) (o : ApplyOutcome) → IsOutcome c o → is_carried_out o.answer ≡ true → HasRowsLeft c o o.buffers.master
