-- Document 02, item 11, over two whole calls: the records that a call wrote, alone in a batch under a control record of the row's state, and
-- that batch applied to a master that holds the row. Assumes nothing.
use Rattle.std.specs.Prelude.{ℕ, ◌≡◌, List, ◌∷◌, ◌++◌, true}
use Rattle.answers.specs.Answer.{is_carried_out, done}
use Rattle.text.specs.Fields.{every}
use Rattle.text.specs.ByteNumbers.{AreBytes}
use Rattle.layout.specs.Batch.{details_of, submitting_state}
use Rattle.casemaster.specs.Row.{row_state}
use Rattle.casemaster.specs.Master.{rows_of}
use Rattle.batch.specs.Call.{Call}
use Rattle.batch.specs.Apply.{ApplyOutcome, IsOutcome, row_count, rows_left}
use Rattle.effects.specs.TwoBatches.{verdicts_left}
use Rattle.leading.specs.Leads.{has_no_error}
use Rattle.leading.specs.Theorem.{RecordsCall, IsRecordsCall, records_in}

-- the batch has the n records written and no other detail, a control record of the row's state, and the same list
pub record SentAlone (s : RecordsCall) (n : ℕ) (c : Call) : Type 0 where
  pub details : details_of c.batch ≡ records_in n s
  pub state : submitting_state c.batch ≡ row_state s.row
  pub list : c.locals ≡ s.list

-- the wanted row stands where the row stood, every other row as it was, and no verdict has an error
pub record LeftWanted (s : RecordsCall) (c : Call) (o : ApplyOutcome) (before behind : List (List ℕ)) : Type 0 where
  pub count : row_count o.answer ≡ c.rows
  pub rows : rows_left o ≡ before ++ (s.wanted ∷ behind)
  pub no_error : every has_no_error (verdicts_left c o) ≡ true

-- for every call that wrote n records and every batch of these alone that is carried out, wherever the row stands in the master
abbrev pub EveryLeadingBatch : Type 0
EveryLeadingBatch =
    (s : RecordsCall) (n : ℕ) (c : Call) (o : ApplyOutcome) (before behind : List (List ℕ))
    → AreBytes s.wanted
    → IsRecordsCall s
    → s.answer ≡ done n
    → SentAlone s n c
    → rows_of c.rows c.master ≡ before ++ (s.row ∷ behind)
    → IsOutcome c o
    → is_carried_out o.answer ≡ true
    → LeftWanted s c o before behind
