-- For the contracts of inner functions; no rule of the papers stands here.
-- The soundness of rows, and refusals 3 and 4, over either form of a row: with cents, or without them. Assumes nothing.
use Rattle.std.specs.Prelude.{ℕ, List, Bool, not, ◌&&◌}
use Rattle.answers.specs.Answer.{refuse_if}
use Rattle.layout.specs.Key.{is_sound_key}
use Rattle.casemaster.specs.Row.{row_key, are_fields_sound, is_end_sound, is_old_end_sound}
use Rattle.casemaster.specs.Master.{rows_of, are_sound_by}
use Rattle.casemaster.specs.Refusals.{refusal3}
use Rattle.casemaster.specs.declared.row.Form.{Form}
use Rattle.casemaster.specs.declared.row.Form.TheVariants.{Old, New}

abbrev pub is_end_sound_in : Form → List ℕ → Bool
is_end_sound_in Old row = is_old_end_sound row
is_end_sound_in New row = is_end_sound row

unfoldable pub is_sound_in : Form → List ℕ → Bool
is_sound_in form row = is_sound_key (row_key row) && (are_fields_sound row && is_end_sound_in form row)

unfoldable pub are_sound_in : Form → List (List ℕ) → Bool
are_sound_in form rows = are_sound_by (is_sound_in form) rows

unfoldable pub refusal_in : ℕ → Form → List ℕ → ℕ → ℕ
refusal_in limit form master rows = refuse_if (refusal3 limit master rows) 3 (refuse_if (not (are_sound_in form (rows_of rows master))) 4 0)
