-- Document 01, "A case's row" and "Applying a batch": a master is rows and a kept tail. Assumes nothing.
use Rattle.std.specs.Prelude.{ℕ, ◌*◌, List, [], ◌∷◌, ◌++◌, map, Bool, cond, ◌&&◌, take, drop}
use Rattle.text.specs.Blocks.{blocks}
use Rattle.casemaster.specs.Row.{row_width, row_key, is_sound_row, is_sound_old_row}
use Rattle.text.specs.ByteOrder.{rising}
use Rattle.text.specs.Fields.{every}

-- the first n rows of a master's bytes; what stands behind them are no rows
abbrev pub rows_of : ℕ → List ℕ → List (List ℕ)
rows_of n master = blocks row_width n master

-- the row at a place, the first being 0
abbrev pub row_in : List ℕ → ℕ → List ℕ
row_in master place = take row_width (drop (place * row_width) master)

-- those of some rows that pass a test, in their order
unfoldable pub rows_that : (List ℕ → Bool) → List (List ℕ) → List (List ℕ)
rows_that test [] = []
rows_that test (row ∷ rows) = cond (test row) (row ∷ []) [] ++ rows_that test rows

unfoldable pub keys_of : List (List ℕ) → List (List ℕ)
keys_of rows = map row_key rows

-- each row is sound, and rows stand in strictly rising byte order of key
abbrev pub are_sound_by : (List ℕ → Bool) → List (List ℕ) → Bool
are_sound_by sound rows = every sound rows && rising (keys_of rows)

unfoldable pub are_sound_rows : List (List ℕ) → Bool
are_sound_rows rows = are_sound_by is_sound_row rows

-- as rows without cents
unfoldable pub are_sound_old_rows : List (List ℕ) → Bool
are_sound_old_rows rows = are_sound_by is_sound_old_row rows
