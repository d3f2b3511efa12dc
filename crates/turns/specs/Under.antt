-- Document 01, "For demand 3": the details of a key, and the one-case machine run over them. Assumes nothing.
use Rattle.std.specs.Prelude.{ℕ, ◌≡◌, length, List, [], ◌∷◌, Bool, cond}
use Rattle.std.proofs.Math.Option.{Option}
use Rattle.text.specs.Fields.{same_bytes}
use Rattle.layout.specs.Record.{record_key}
use Rattle.onecase.specs.Verdict.{Judgement, judgement}
use Rattle.onecase.specs.Machine.{next}
use Rattle.judging.specs.Setting.{Setting}

-- a key is twelve bytes, sound or not
pub record IsKey (key : List ℕ) : Type 0 where
  pub twelve : length key ≡ 12

abbrev pub is_under : List ℕ → List ℕ → Bool
is_under key detail = same_bytes (record_key detail) key

-- the details of a key, in batch order
unfoldable pub details_under : List ℕ → List (List ℕ) → List (List ℕ)
details_under key [] = []
details_under key (detail ∷ details) = cond (is_under key detail) (detail ∷ details_under key details) (details_under key details)

-- the verdicts on them, in the batch order of the details
unfoldable pub verdicts_under : List ℕ → List (List ℕ) → List Judgement → List Judgement
verdicts_under key [] verdicts = []
verdicts_under key (detail ∷ details) [] = []
verdicts_under key (detail ∷ details) (verdict ∷ verdicts) =
    cond (is_under key detail) (verdict ∷ verdicts_under key details verdicts) (verdicts_under key details verdicts)

-- ---- the one-case machine's run

module _ (setting : Setting) where
  -- each step gets the row or none that the one before returned; without details the starting row is also the end
  unfoldable pub run_row : Option (List ℕ) → List (List ℕ) → Option (List ℕ)
  run_row row [] = row
  run_row row (detail ∷ details) = run_row (next setting row detail) details

  unfoldable pub run_verdicts : Option (List ℕ) → List (List ℕ) → List Judgement
  run_verdicts row [] = []
  run_verdicts row (detail ∷ details) = judgement setting row detail ∷ run_verdicts (next setting row detail) details
