-- Demand 3: two batches carried out from the same master are equal in effect exactly when the one-case machine agrees under every key.
-- The notions are those of document 01, "For demand 3"; the machine is that of document 02, item 3. Assumes nothing.
use Rattle.std.specs.Prelude.{ℕ, ◌≡◌, ◌↔◌, List, [], ◌∷◌, true, cond, eqb, take, drop}
use Rattle.std.proofs.Math.Option.{Option, none, some}
use Rattle.answers.specs.Answer.{is_carried_out}
use Rattle.text.specs.Fields.{columns}
use Rattle.layout.specs.Codes.{codes_of_number}
use Rattle.casemaster.specs.Master.{rows_of}
use Rattle.onecase.specs.Verdict.{Judgement, has_code}
use Rattle.casemaster.specs.Rows.{row_with}
use Rattle.batch.specs.Apply.{ApplyOutcome, IsOutcome, row_count, rows_left}
use Rattle.turns.specs.Under.{details_under, verdicts_under, run_row, run_verdicts, IsKey}
use Rattle.judging.specs.Setting.{Setting}
use Rattle.turns.specs.Settings.{setting_under}
use Rattle.layout.specs.Batch.{detail_count, details_of, submitting_state}
use Rattle.batch.specs.Call.{Call, call_settings}

-- ---- read off the outcome

-- the set that a number in the verdict list stands for and, with 17, columns 240–243 of the detail's reject record
abbrev pub read_verdict : ℕ → List ℕ → Judgement
read_verdict number reject =
    record { codes = codes_of_number number; name = cond (has_code 17 (codes_of_number number)) (some (columns 240 243 reject)) none }

-- a detail's reject record is found by counting the details before it whose number isn't zero
abbrev pub rejects_behind : ℕ → List ℕ → List ℕ
rejects_behind number rejects = cond (eqb number 0) rejects (drop 245 rejects)

unfoldable pub read_verdicts : List ℕ → List ℕ → List Judgement
read_verdicts [] rejects = []
read_verdicts (number ∷ numbers) rejects = read_verdict number (take 245 rejects) ∷ read_verdicts numbers (rejects_behind number rejects)

-- a batch's verdicts on its details, in batch order
abbrev pub verdicts_left : Call → ApplyOutcome → List Judgement
verdicts_left c o = read_verdicts (take (detail_count c.batch) o.buffers.verdicts) o.buffers.rejects

-- ---- under a key

-- a key's starting row is the master's row with that key at entry, deleted or not, else none
abbrev pub starting_row : List ℕ → Call → Option (List ℕ)
starting_row key c = row_with key (rows_of c.rows c.master)

-- beside each record it reads the state, the year, the list and the names that the key's own details in that batch give
abbrev pub machine_setting : List ℕ → Call → Setting
machine_setting key c = setting_under (call_settings c) key

-- the machine starts there and takes the details of that key alone, in batch order, rejected ones included
unfoldable pub machine_row : List ℕ → Call → Option (List ℕ)
machine_row key c =
    run_row (machine_setting key c) (starting_row key c) (details_under key (details_of c.batch))

unfoldable pub machine_verdicts : List ℕ → Call → List Judgement
machine_verdicts key c =
    run_verdicts (machine_setting key c) (starting_row key c) (details_under key (details_of c.batch))

-- ---- the claim

-- the same master (row count and rows), submitting state, year and list
pub record SameStart (g h : Call) : Type 0 where
  pub count : g.rows ≡ h.rows
  pub rows : rows_of g.rows g.master ≡ rows_of h.rows h.master
  pub state : submitting_state g.batch ≡ submitting_state h.batch
  pub year : g.year ≡ h.year
  pub list : g.locals ≡ h.locals

-- equal in effect: the same row count and rows, and under each key the same verdicts in the same order
pub record EqualEffect (g : Call) (o : ApplyOutcome) (h : Call) (p : ApplyOutcome) : Type 0 where
  pub count : row_count o.answer ≡ row_count p.answer
  pub rows : rows_left o ≡ rows_left p
  pub verdicts : (key : List ℕ) → IsKey key
      → verdicts_under key (details_of g.batch) (verdicts_left g o) ≡ verdicts_under key (details_of h.batch) (verdicts_left h p)

-- for every key the machine comes to the same row, or none, with the same verdicts in the same order
pub record MachineAgrees (g h : Call) : Type 0 where
  pub row : (key : List ℕ) → IsKey key → machine_row key g ≡ machine_row key h
  pub verdicts : (key : List ℕ) → IsKey key → machine_verdicts key g ≡ machine_verdicts key h

-- the row and the verdicts that a batch leaves under a key are the machine's
pub record LeftByMachine (c : Call) (o : ApplyOutcome) : Type 0 where
  pub row : (key : List ℕ) → IsKey key → row_with key (rows_left o) ≡ machine_row key c
  pub verdicts : (key : List ℕ) → IsKey key → verdicts_under key (details_of c.batch) (verdicts_left c o) ≡ machine_verdicts key c

-- demand 3, over two whole calls that are carried out from the same start, whatever their details and the length of their buffers
abbrev pub TwoBatches : Type 0
TwoBatches =
    (g h : Call) (o p : ApplyOutcome)
    → IsOutcome g o
    → IsOutcome h p
    → is_carried_out o.answer ≡ true
    → is_carried_out p.answer ≡ true
    → SameStart g h
    → (EqualEffect g o h p ↔ MachineAgrees g h) × LeftByMachine g o × LeftByMachine h p
