-- A master's rows under their keys: the row with a key, and a row put in its place. Assumes nothing.
use Rattle.std.specs.Prelude.{ℕ, zero, suc, List, [], ◌∷◌, cond}
use Rattle.std.proofs.Math.Option.{Option, none, some}
use Rattle.text.specs.Fields.{same_bytes}
use Rattle.casemaster.specs.Row.{row_key}
use Rattle.text.specs.ByteOrder.{with_block}

-- the row with a key, deleted or not, else none
unfoldable pub row_with : List ℕ → List (List ℕ) → Option (List ℕ)
row_with key [] = none
row_with key (row ∷ rows) = cond (same_bytes (row_key row) key) (some row) (row_with key rows)

-- one place further on
abbrev pub one_more : Option ℕ → Option ℕ
one_more none = none
one_more (some place) = some (suc place)

-- the place of the row with a key, the first being 0, else none
unfoldable pub place_with : List ℕ → List (List ℕ) → Option ℕ
place_with key [] = none
place_with key (row ∷ rows) = cond (same_bytes (row_key row) key) (some zero) (one_more (place_with key rows))

-- a row in its place: for the row with its key, or before the first row with a higher key
unfoldable pub with_row : List ℕ → List (List ℕ) → List (List ℕ)
with_row new rows = with_block 12 new rows

-- what a step returned, put back
abbrev pub with_stored : Option (List ℕ) → List (List ℕ) → List (List ℕ)
with_stored none rows = rows
with_stored (some row) rows = with_row row rows
