-- Document 02, item 11: lists of C, L, R and M records that lead the one-case machine from a row to a wanted row without an error, under
-- a control record of the row's state; refusal 29 is that there is none. Assumes nothing.
use Rattle.std.specs.Prelude.{ℕ, ◌<◌, ◌≡◌, ◌↔◌, List, [], Bool, true, false, not, ◌&&◌, ◌||◌, eqb, length}
use Rattle.std.proofs.Math.Option.{some}
use Rattle.text.specs.Characters.{C, L, M, R}
use Rattle.text.specs.Fields.{every, same_bytes}
use Rattle.layout.specs.Record.{record_key, is_type}
use Rattle.casemaster.specs.Row.{row_key, row_state, is_sound_row}
use Rattle.judging.specs.Setting.{Setting, setting_of}
use Rattle.onecase.specs.Verdict.{Judgement, is_rejected}
use Rattle.turns.specs.Under.{run_row, run_verdicts}
use Rattle.caserecords.specs.Differences.{refusal29, set_of}
use Rattle.caserecords.specs.Records.{records_to}

-- a C, L, R or M record of that key
unfoldable pub is_correction : List ℕ → List ℕ → Bool
is_correction key rec =
    eqb (length rec) 245
    && (same_bytes (record_key rec) key && (is_type C rec || is_type L rec || is_type R rec || is_type M rec))

-- what the machine reads beside the record: the row's state, the year and the list; no names, since only B records give names
abbrev pub setting_for : List ℕ → ℕ → List ℕ → Setting
setting_for row year list = setting_of (row_state row) year list []

abbrev pub has_no_error : Judgement → Bool
has_no_error verdict = not (is_rejected verdict)

-- the records lead there without an error
pub record Lead (row wanted : List ℕ) (year : ℕ) (list : List ℕ) (recs : List (List ℕ)) : Type 0 where
  pub corrections : every (is_correction (row_key row)) recs ≡ true
  pub no_error : every has_no_error (run_verdicts (setting_for row year list) (some row) recs) ≡ true
  pub ends : run_row (setting_for row year list) (some row) recs ≡ some wanted

-- some list does, the empty list counted
abbrev pub CanLead : List ℕ → List ℕ → ℕ → List ℕ → Type 0
CanLead row wanted year list = (recs : List (List ℕ)) × Lead row wanted year list recs

-- no list does: the sentence of refusal 29
abbrev pub NoneLeads : List ℕ → List ℕ → ℕ → List ℕ → Type 0
NoneLeads row wanted year list = CanLead row wanted year list → ⊥

-- two sound rows, as they are where refusal 4 does not come; the wanted set is a byte, as every byte lent is
pub record Pair (row wanted : List ℕ) : Type 0 where
  pub wide : length row ≡ 200
  pub sound : is_sound_row row ≡ true
  pub wanted_wide : length wanted ≡ 200
  pub wanted_sound : is_sound_row wanted ≡ true
  pub wanted_byte : set_of wanted < 256

pub record LeadsOrNone (row wanted list : List ℕ) (year : ℕ) : Type 0 where
  -- the test by which the call refuses with 29 holds exactly if no list leads there
  pub exactly : (refusal29 row wanted list ≡ true) ↔ NoneLeads row wanted year list
  -- and where it doesn't hold, the records written do
  pub written_lead : refusal29 row wanted list ≡ false → Lead row wanted year list (records_to row wanted)
  -- with 29 no list ends there with errors either, under whatever control record's state, year and names
  pub none_ends : refusal29 row wanted list ≡ true → (setting : Setting) → setting.list ≡ list → (recs : List (List ℕ))
      → every (is_correction (row_key row)) recs ≡ true → run_row setting (some row) recs ≡ some wanted → ⊥

-- for any two sound rows and any list, in every year
abbrev pub EveryPair : Type 0
EveryPair = (row wanted list : List ℕ) → Pair row wanted → (year : ℕ) → LeadsOrNone row wanted list year
