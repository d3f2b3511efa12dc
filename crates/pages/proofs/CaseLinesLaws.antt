-- Laws of the lines of the live rows, row by row. Assumes nothing.
use Prim.Native.Nat.{ℕ}
use mathlib.Core.Path.{◌≡◌, refl}
use mathlib.Core.Bool.{Bool, true, false, cond}
use mathlib.Core.List.{List, [], ◌∷◌, ◌++◌, map}
use Rattle.casemaster.specs.Row.{is_live}
use Rattle.casemaster.specs.Master.{rows_that}
use Rattle.pages.specs.Forms.{case_line}
use Rattle.pages.specs.Pages.{case_lines}

pub no_lines : case_lines [] ≡ []
unfolding case_lines rows_that
no_lines = refl

pub lines_more : (row : List ℕ) (rows : List (List ℕ)) → case_lines (row ∷ rows) ≡ cond (is_live row) (case_line row ∷ []) [] ++ case_lines rows
unfolding case_lines rows_that
lines_more row rows = go (is_live row)
  where
    go : (b : Bool) → map case_line (cond b (row ∷ []) [] ++ rows_that is_live rows) ≡ cond b (case_line row ∷ []) [] ++ map case_line (rows_that is_live rows)
    go true = refl
    go false = refl
