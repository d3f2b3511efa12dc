-- No sentence of the papers: as document 01 has it for batches ("For demand 3"), the lines of a key, and the one-key machine run over them. Its state
-- is one row or none; its step reads the line, nothing else. Assumes nothing.
use Rattle.std.specs.Prelude.{ℕ, List, [], ◌∷◌, ◌++◌, Bool, cond}
use Rattle.std.proofs.Math.Option.{Option, none, some}
use Rattle.text.specs.Fields.{same_bytes}
use Rattle.collectionfile.specs.Line.{line_key}
use Rattle.posting.specs.Posting.{is_posted_on, is_posted, posted_row, is_posted_in, after_line}

-- the lines of a key, in file order
unfoldable pub lines_under : List ℕ → List (List ℕ) → List (List ℕ)
lines_under key [] = []
lines_under key (line ∷ lines) = cond (same_bytes (line_key line) key) (line ∷ []) [] ++ lines_under key lines

-- whether each of them is posted, from the rows at its turn
unfoldable pub posted_under : List ℕ → List (List ℕ) → List (List ℕ) → List Bool
posted_under key rows [] = []
posted_under key rows (line ∷ lines) =
    cond (same_bytes (line_key line) key) (is_posted_in rows line ∷ []) [] ++ posted_under key (after_line rows line) lines

-- the machine's step: the row that a line leaves; a listed one changes nothing
abbrev pub next_row : List ℕ → Option (List ℕ) → Option (List ℕ)
next_row line none = none
next_row line (some row) = some (cond (is_posted_on line row) (posted_row line row) row)

-- each step gets the row or none that the one before returned; without lines the starting row is also the end
unfoldable pub row_through : Option (List ℕ) → List (List ℕ) → Option (List ℕ)
row_through row [] = row
row_through row (line ∷ lines) = row_through (next_row line row) lines

unfoldable pub run_posted : Option (List ℕ) → List (List ℕ) → List Bool
run_posted row [] = []
run_posted row (line ∷ lines) = is_posted line row ∷ run_posted (next_row line row) lines
