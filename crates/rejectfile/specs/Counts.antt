-- Document 01, "Applying a batch": the counts of the result, and the control record of Chart 0-2. Assumes nothing.
use Rattle.std.specs.Prelude.{ℕ, ◌+◌, ◌≡◌, List, [], ◌∷◌, ◌++◌, Bool, not, cond, ◌&&◌, ◌||◌, eqb, length}
use Rattle.text.specs.Characters.{A, N}
use Rattle.text.specs.Fields.{digit_field, spaces}
use Rattle.layout.specs.Record.{case_type_of}
use Rattle.layout.specs.Chart02.{reject_state, reject_control, tanf_accepted, tanf_rejected, non_tanf_accepted, non_tanf_rejected, tanf_warning, non_tanf_warning, reject_control_filler}
use Rattle.onecase.specs.Verdict.{Judgement, is_rejected, is_warned}
use Rattle.batchfile.specs.Totals.{CTL}

-- TANF is case type A, Non-TANF is N
abbrev pub is_tanf : List ℕ → Bool
is_tanf detail = eqb (case_type_of detail) A

abbrev pub is_non_tanf : List ℕ → Bool
is_non_tanf detail = eqb (case_type_of detail) N

-- how many details, with their verdicts, pass the test
unfoldable pub how_many : (List ℕ → Judgement → Bool) → List (List ℕ) → List Judgement → ℕ
how_many test [] verdicts = 0
how_many test (detail ∷ details) [] = 0
how_many test (detail ∷ details) (verdict ∷ verdicts) = cond (test detail verdict) 1 0 + how_many test details verdicts

-- the tests: accepted includes warned; a record of neither case type counts under neither alone
abbrev pub is_tanf_accepted : List ℕ → Judgement → Bool
is_tanf_accepted detail verdict = is_tanf detail && not (is_rejected verdict)

abbrev pub is_tanf_rejected : List ℕ → Judgement → Bool
is_tanf_rejected detail verdict = is_tanf detail && is_rejected verdict

abbrev pub is_tanf_warned : List ℕ → Judgement → Bool
is_tanf_warned detail verdict = is_tanf detail && is_warned verdict

abbrev pub is_non_tanf_accepted : List ℕ → Judgement → Bool
is_non_tanf_accepted detail verdict = is_non_tanf detail && not (is_rejected verdict)

abbrev pub is_non_tanf_rejected : List ℕ → Judgement → Bool
is_non_tanf_rejected detail verdict = is_non_tanf detail && is_rejected verdict

abbrev pub is_non_tanf_warned : List ℕ → Judgement → Bool
is_non_tanf_warned detail verdict = is_non_tanf detail && is_warned verdict

abbrev pub is_neither : List ℕ → Judgement → Bool
is_neither detail verdict = not (is_tanf detail || is_non_tanf detail)

-- the seven counts
pub record Counts : Type 0 where
  pub accepted_tanf : ℕ
  pub rejected_tanf : ℕ
  pub accepted_non_tanf : ℕ
  pub rejected_non_tanf : ℕ
  pub warned_tanf : ℕ
  pub warned_non_tanf : ℕ
  pub neither : ℕ

unfoldable pub counts_of : List (List ℕ) → List Judgement → Counts
counts_of details verdicts =
    record {
      accepted_tanf = how_many is_tanf_accepted details verdicts;
      rejected_tanf = how_many is_tanf_rejected details verdicts;
      accepted_non_tanf = how_many is_non_tanf_accepted details verdicts;
      rejected_non_tanf = how_many is_non_tanf_rejected details verdicts;
      warned_tanf = how_many is_tanf_warned details verdicts;
      warned_non_tanf = how_many is_non_tanf_warned details verdicts;
      neither = how_many is_neither details verdicts;
    }

-- the control record of Chart 0-2, field behind field
unfoldable pub control_record : List ℕ → Counts → List ℕ
control_record state counts =
    state ++ CTL ++ digit_field 9 counts.accepted_tanf ++ digit_field 9 counts.rejected_tanf ++ digit_field 9 counts.accepted_non_tanf
    ++ digit_field 9 counts.rejected_non_tanf ++ digit_field 9 counts.warned_tanf ++ digit_field 9 counts.warned_non_tanf
    ++ spaces 186

-- the same by its columns (proved of it in ControlColumns)
pub record IsControlRecord (state : List ℕ) (counts : Counts) (rec : List ℕ) : Type 0 where
  pub wide : length rec ≡ 245
  pub state_is : reject_state rec ≡ state
  pub control_is : reject_control rec ≡ CTL
  pub tanf_accepted : tanf_accepted rec ≡ digit_field 9 counts.accepted_tanf
  pub tanf_rejected : tanf_rejected rec ≡ digit_field 9 counts.rejected_tanf
  pub non_tanf_accepted : non_tanf_accepted rec ≡ digit_field 9 counts.accepted_non_tanf
  pub non_tanf_rejected : non_tanf_rejected rec ≡ digit_field 9 counts.rejected_non_tanf
  pub tanf_warning : tanf_warning rec ≡ digit_field 9 counts.warned_tanf
  pub non_tanf_warning : non_tanf_warning rec ≡ digit_field 9 counts.warned_non_tanf
  pub filler_is : reject_control_filler rec ≡ spaces 186
