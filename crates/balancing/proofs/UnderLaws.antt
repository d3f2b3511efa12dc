-- Under each key the row, and which of its lines are posted, are the one-key machine's; listed lines could be left out. Assumes nothing.
use Prim.Native.Nat.{ℕ}
use mathlib.Core.Path.{◌≡◌, refl, ◌∙◌}
use mathlib.Core.List.{List, [], ◌∷◌, ◌++◌}
use mathlib.Core.Bool.{Bool, true, false, cond}
use mathlib.Core.Option.{Option, none, some}
use Rattle.text.specs.Fields.{same_bytes}
use Rattle.text.proofs.SameLaws.{same_eq}
use Rattle.casemaster.specs.Rows.{row_with}
use Rattle.casemaster.proofs.SearchLaws.{row_with_same, row_with_other}
use Rattle.casemaster.proofs.RowsLaws.{Fit}
use Rattle.collectionfile.specs.Line.{line_key}
use Rattle.posting.specs.Posting.{is_posted, posted_row, is_posted_in, after_line, after_lines, posted_lines}
use Rattle.balancing.specs.Under.{lines_under, posted_under, next_row, row_through, run_posted}
use Rattle.posting.proofs.TurnLaws.{Turn, posted, left, turn, posted_key, after_fit}

-- a line that isn't posted leaves its row
idle : (line : List ℕ) (row : Option (List ℕ)) → is_posted line row ≡ false → next_row line row ≡ row
idle line none h = refl
idle line (some row) h = rw h

-- ---- one line

module _ (key : List ℕ) (rows : List (List ℕ)) (line : List ℕ) where
  posted_there : same_bytes (line_key line) key ≡ true → is_posted_in rows line ≡ is_posted line (row_with key rows)
  unfolding is_posted_in
  posted_there h = let k : line_key line ≡ key = same_eq (line_key line) key h in rw k

  -- a line of the key takes the machine one step on; another leaves the key's row
  row-after : Fit rows → (b : Bool) → same_bytes (line_key line) key ≡ b
      → row_with key (after_line rows line) ≡ cond b (next_row line (row_with key rows)) (row_with key rows)
  row-after f b h = go (turn rows line) b h
    where
      go : Turn rows line → (b : Bool) → same_bytes (line_key line) key ≡ b
          → row_with key (after_line rows line) ≡ cond b (next_row line (row_with key rows)) (row_with key rows)
      go (posted row e t p a) true h =
          let k : line_key line ≡ key = same_eq (line_key line) key h in
          rw (a, ← k, e, t) (row_with_same (line_key line) (posted_row line row) rows (posted_key rows f line row e))
      go (posted row e t p a) false h =
          rw a (row_with_other key (posted_row line row) rows (rw (posted_key rows f line row e) h))
      go (left p a) true h = rw (a, idle line (row_with key rows) (rw (posted_there h) at p))
      go (left p a) false h = rw a

-- ---- all lines

pub row_run : (key : List ℕ) (rows lines : List (List ℕ)) → Fit rows
    → row_with key (after_lines rows lines) ≡ row_through (row_with key rows) (lines_under key lines)
unfolding after_lines lines_under row_through
row_run key rows [] f = refl
row_run key rows (line ∷ lines) f =
    row_run key (after_line rows line) lines (after_fit rows line f)
    ∙ go (same_bytes (line_key line) key) (row-after key rows line f (same_bytes (line_key line) key) refl)
  where
    go : (b : Bool) → row_with key (after_line rows line) ≡ cond b (next_row line (row_with key rows)) (row_with key rows)
        → row_through (row_with key (after_line rows line)) (lines_under key lines)
        ≡ row_through (row_with key rows) (cond b (line ∷ []) [] ++ lines_under key lines)
    go true e = rw e
    go false e = rw e

pub posted_run : (key : List ℕ) (rows lines : List (List ℕ)) → Fit rows
    → posted_under key rows lines ≡ run_posted (row_with key rows) (lines_under key lines)
unfolding posted_under lines_under run_posted
posted_run key rows [] f = refl
posted_run key rows (line ∷ lines) f =
    go (same_bytes (line_key line) key) refl (row-after key rows line f (same_bytes (line_key line) key) refl)
    (posted_run key (after_line rows line) lines (after_fit rows line f))
  where
    go : (b : Bool) → same_bytes (line_key line) key ≡ b
        → row_with key (after_line rows line) ≡ cond b (next_row line (row_with key rows)) (row_with key rows)
        → posted_under key (after_line rows line) lines ≡ run_posted (row_with key (after_line rows line)) (lines_under key lines)
        → cond b (is_posted_in rows line ∷ []) [] ++ posted_under key (after_line rows line) lines
        ≡ run_posted (row_with key rows) (cond b (line ∷ []) [] ++ lines_under key lines)
    go true h e ih = rw (posted_there key rows line h, ih, e)
    go false h e ih = rw (ih, e)

-- ---- listed lines

pub listed_idle : (rows lines : List (List ℕ)) → after_lines rows lines ≡ after_lines rows (posted_lines rows lines)
unfolding after_lines posted_lines
listed_idle rows [] = refl
listed_idle rows (line ∷ lines) = go (turn rows line) (listed_idle (after_line rows line) lines)
  where
    go : Turn rows line → after_lines (after_line rows line) lines ≡ after_lines (after_line rows line) (posted_lines (after_line rows line) lines)
        → after_lines (after_line rows line) lines
        ≡ after_lines rows (cond (is_posted_in rows line) (line ∷ []) [] ++ posted_lines (after_line rows line) lines)
    go (posted row e t p a) ih = rw p ih
    go (left p a) ih = rw (p, a) (rw a at ih)
