-- For the contracts of inner functions; no rule of the papers stands here.
-- The pages line by line: what each row adds behind the rows that its page has already. Assumes nothing.
use Rattle.std.specs.Prelude.{ℕ, ◌+◌, ◌≡◌, List, [], ◌∷◌, ◌++◌, not, cond, eqb}
use Rattle.text.specs.Blocks.{blocks, Holds}
use Rattle.casemaster.specs.Row.{is_live}
use Rattle.pages.specs.Forms.{case_line, heading, foot}

-- the heading before the first row of a page
abbrev pub heading_before : ℕ → ℕ → List (List ℕ)
heading_before number on = cond (not (eqb on 0)) [] (heading number ∷ [])

-- the foot of a page that ends
abbrev pub foot_behind : ℕ → List (List ℕ)
foot_behind on = cond (eqb on 58) (foot on ∷ []) []

-- the rows on the present page, and its number, with one row more
abbrev pub on_next : ℕ → ℕ
on_next on = cond (eqb (on + 1) 58) 0 (on + 1)

abbrev pub number_next : ℕ → ℕ → ℕ
number_next number on = cond (eqb (on + 1) 58) (number + 1) number

-- what is still to be printed: the page with that number has `on` rows already
unfoldable pub going_on : ℕ → ℕ → List (List ℕ) → List (List ℕ)
going_on number on [] = cond (not (eqb on 0)) (foot on ∷ []) []
going_on number on (line ∷ lines) = heading_before number on ++ (line ∷ []) ++ foot_behind (on + 1) ++ going_on (number_next number on) (on_next on) lines

-- what one row adds
unfoldable pub row_lines : ℕ → ℕ → List ℕ → List (List ℕ)
row_lines number on row = cond (is_live row) (heading_before number on ++ (case_line row ∷ []) ++ foot_behind (on + 1)) []

-- the buffer before and after a row, behind k lines
pub record RowPrinted (before : List ℕ) (k number on : ℕ) (row after : List ℕ) (k' number' on' : ℕ) : Type 0 where
  pub held : Holds 132 before after k' (blocks 132 k before ++ row_lines number on row)
  pub number_is : number' ≡ cond (is_live row) (number_next number on) number
  pub on_is : on' ≡ cond (is_live row) (on_next on) on
