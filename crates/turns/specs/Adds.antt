-- Document 01, refusal 9: the A records of a batch, and those whose key has no row. Assumes nothing.
use Rattle.std.specs.Prelude.{ℕ, ◌+◌, List, [], ◌∷◌, Bool, cond, ◌&&◌}
use Rattle.text.specs.Options.{is_none}
use Rattle.text.specs.Characters.{A}
use Rattle.layout.specs.Record.{record_key, is_type}
use Rattle.casemaster.specs.Rows.{row_with}

-- an A record whose key has no row
abbrev pub is_new : List (List ℕ) → List ℕ → Bool
is_new rows detail = is_type A detail && is_none (row_with (record_key detail) rows)

-- how many A records have a key without a row
unfoldable pub adds_without_row : List (List ℕ) → List (List ℕ) → ℕ
adds_without_row rows [] = 0
adds_without_row rows (detail ∷ details) = cond (is_new rows detail) 1 0 + adds_without_row rows details

-- how many of some details are of type A
unfoldable pub add_count : List (List ℕ) → ℕ
add_count [] = 0
add_count (detail ∷ details) = cond (is_type A detail) 1 0 + add_count details
