-- Document 01, "Reconciliation": Charts 0-6 and 0-7. Assumes nothing.
use Rattle.std.specs.Prelude.{ℕ, ◌+◌, ◌*◌, List, [], ◌∷◌, ◌++◌, map, Bool, not, cond, ◌&&◌, eqb, ltb, length, get_or, Result}
use Rattle.answers.specs.Answer.{refuse_if, Answer, Outcome, Run, outcome_by}
use Rattle.answers.specs.Refusal.{answer_in}
use Rattle.answers.specs.declared.refusal.Refusal.{Refusal}
use Rattle.text.specs.Characters.{A, C, E, N, R, letter_t}
use Rattle.text.specs.Fields.{columns, same_bytes, digit_field, spaces}
use Rattle.layout.specs.States.{is_state}
use Rattle.dates.specs.Calendar.{is_date}
use Rattle.exclusionsets.specs.Exclusions.{exclusion_columns}
use Rattle.text.specs.Blocks.{joined, over}
use Rattle.casemaster.specs.Row.{row_state, row_ssn, row_case_type, row_local_code, row_case_id, row_last_name, row_arrearage, row_date_issued, row_exclusions, is_live}
use Rattle.casemaster.specs.Master.{rows_of, rows_that}
use Rattle.casemaster.specs.Refusals.{master_refusal}

-- a live row of that state
abbrev pub is_reported : List ℕ → List ℕ → Bool
is_reported state row = is_live row && same_bytes (row_state row) state

abbrev pub REC : List ℕ
REC = R ∷ E ∷ C ∷ []

abbrev pub RCT : List ℕ
RCT = R ∷ C ∷ letter_t ∷ []

-- the record of a row, Chart 0-6, field behind field; the first name is cut to ten
unfoldable pub rec_record : List ℕ → List ℕ
rec_record row =
    REC ++ row_state row ++ row_local_code row ++ row_ssn row ++ row_case_id row ++ row_last_name row ++ columns 51 60 row ++ row_arrearage row
    ++ row_case_type row ++ row_date_issued row ++ spaces 2 ++ exclusion_columns (get_or (row_exclusions row) 0 0) ++ spaces 140

-- a REC record per live row of that state, in key order
unfoldable pub rec_records : List ℕ → List (List ℕ) → List (List ℕ)
rec_records state rows = map rec_record (rows_that (is_reported state) rows)

-- how many of them are of a case type
unfoldable pub reported_of : ℕ → List ℕ → List (List ℕ) → ℕ
reported_of case_type state [] = 0
reported_of case_type state (row ∷ rows) =
    cond (is_reported state row && eqb (get_or (row_case_type row) 0 0) case_type) 1 0 + reported_of case_type state rows

-- then RCT, Chart 0-7, field behind field
unfoldable pub rct_record : List ℕ → List ℕ → List (List ℕ) → List ℕ
rct_record state date rows =
    RCT ++ state ++ digit_field 9 (reported_of A state rows) ++ digit_field 9 (reported_of N state rows)
    ++ digit_field 9 (length (rec_records state rows)) ++ date ++ spaces 205

-- 12: state not in the table
unfoldable pub refusal12 : List ℕ → Bool
refusal12 state = not (is_state state)

-- 13: no calendar date as in error 15, blank included
unfoldable pub refusal13 : List ℕ → Bool
refusal13 date = not (is_date date)

-- 11: buffer below 245 × (records + 1)
unfoldable pub refusal_of_space : List ℕ → List (List ℕ) → List ℕ → Bool
refusal_of_space state rows out = ltb (length out) (245 * (length (rec_records state rows) + 1))

-- refused, in order: 3; 4; 12; 13; 11; the limit is that of 3, and nothing else takes it
unfoldable pub reconcile_refusal : ℕ → List ℕ → ℕ → List ℕ → List ℕ → List ℕ → ℕ
reconcile_refusal limit master rows state date out =
    master_refusal limit master rows
    (refuse_if (refusal12 state) 12
    (refuse_if (refusal13 date) 13
    (refuse_if (refusal_of_space state (rows_of rows master) out) 11 0)))

-- the answer: the number of REC records, or a refusal's number
abbrev pub reconcile_answer : Result ℕ Refusal → Answer ℕ
reconcile_answer r = answer_in (λ n. n) r

-- the answer and the buffer
abbrev pub ReconcileOutcome : Type 0
ReconcileOutcome = Outcome ℕ (List ℕ)

abbrev pub reconciled_as : Result ℕ Refusal → List ℕ → ReconcileOutcome
reconciled_as answer out = record { answer = reconcile_answer answer; buffers = out }

-- the file at the front of the buffer; bytes behind RCT are kept
abbrev pub reconcile_run : List ℕ → ℕ → List ℕ → List ℕ → List ℕ → Run ℕ (List ℕ)
reconcile_run master rows state date out =
    record {
      result = length (rec_records state (rows_of rows master));
      buffers = over (joined (rec_records state (rows_of rows master)) ++ rct_record state date (rows_of rows master)) out;
    }

unfoldable pub reconcile_outcome : ℕ → List ℕ → ℕ → List ℕ → List ℕ → List ℕ → ReconcileOutcome
reconcile_outcome limit master rows state date out =
    outcome_by (reconcile_refusal limit master rows state date out) out (reconcile_run master rows state date out)
