-- Document 01, "Applying a batch": the machine runs on each detail in turn, over the rows as they are then. What it reads beside the
-- record is the setting of the detail's key. Assumes nothing.
use Rattle.std.specs.Prelude.{ℕ, List, [], ◌∷◌}
use Rattle.layout.specs.Record.{record_key}
use Rattle.onecase.specs.Verdict.{Judgement, judgement}
use Rattle.onecase.specs.Machine.{next}
use Rattle.casemaster.specs.Rows.{row_with, with_stored}
use Rattle.turns.specs.Settings.{Settings, setting_under}

module _ (settings : Settings) where
  -- the rows after a detail
  unfoldable pub after_detail : List (List ℕ) → List ℕ → List (List ℕ)
  after_detail rows detail = with_stored (next (setting_under settings (record_key detail)) (row_with (record_key detail) rows) detail) rows

  -- the verdict on a detail
  unfoldable pub verdict_on : List (List ℕ) → List ℕ → Judgement
  verdict_on rows detail = judgement (setting_under settings (record_key detail)) (row_with (record_key detail) rows) detail

  -- the rows after all details
  unfoldable pub final_rows : List (List ℕ) → List (List ℕ) → List (List ℕ)
  final_rows rows [] = rows
  final_rows rows (detail ∷ details) = final_rows (after_detail rows detail) details

  -- the verdicts, in batch order
  unfoldable pub verdicts_on : List (List ℕ) → List (List ℕ) → List Judgement
  verdicts_on rows [] = []
  verdicts_on rows (detail ∷ details) = verdict_on rows detail ∷ verdicts_on (after_detail rows detail) details
