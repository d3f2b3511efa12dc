-- Document 01, "Applying a batch", with document 02, item 6 (cents): the refusals 3 and 4, which every call over a master begins with.
-- Assumes nothing.
use Rattle.std.specs.Prelude.{ℕ, ◌/◌, ◌%◌, List, Bool, not, ◌||◌, eqb, ltb, length}
use Rattle.answers.specs.Answer.{refuse_if}
use Rattle.casemaster.specs.Row.{row_width}
use Rattle.casemaster.specs.Master.{rows_of, are_sound_rows, are_sound_old_rows}

-- 3: master length no multiple of 200, or row count above length ÷ 200 or the limit (16,777,215)
unfoldable pub refusal3 : ℕ → List ℕ → ℕ → Bool
refusal3 limit master rows = not (eqb (length master % row_width) 0) || ltb (length master / row_width) rows || ltb limit rows

-- 4: an unsound row or order
unfoldable pub refusal4 : List ℕ → ℕ → Bool
refusal4 master rows = not (are_sound_rows (rows_of rows master))

-- the first of 3 and 4 that holds, else what comes behind
unfoldable pub master_refusal : ℕ → List ℕ → ℕ → ℕ → ℕ
master_refusal limit master rows behind = refuse_if (refusal3 limit master rows) 3 (refuse_if (refusal4 master rows) 4 behind)

-- over rows without cents
unfoldable pub old_master_refusal : ℕ → List ℕ → ℕ → ℕ
old_master_refusal limit master rows = refuse_if (refusal3 limit master rows) 3 (refuse_if (not (are_sound_old_rows (rows_of rows master))) 4 0)
