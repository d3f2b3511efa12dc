-- Document 02, item 6: a line posted or listed, the row that it leaves, and the rows and the list after all lines. Assumes nothing.
use Rattle.std.specs.Prelude.{ℕ, suc, ◌+◌, ◌-◌, ◌/◌, ◌%◌, List, [], ◌∷◌, ◌++◌, Bool, false, cond, ◌&&◌, eqb, leb}
use Rattle.std.proofs.Math.Option.{Option, none, some}
use Rattle.text.specs.Characters.{space, D}
use Rattle.text.specs.Fields.{placed, digit_field}
use Rattle.casemaster.specs.Rows.{row_with, with_row}
use Rattle.casemaster.specs.Row.{balance, is_live}
use Rattle.collectionfile.specs.Line.{line_key, collected, adjusted, is_right}

-- 99,999,999.99
abbrev pub most : ℕ
most = 9999999999

-- a collection lowers the balance, never below zero; an adjustment raises it
unfoldable pub balance_after : ℕ → List ℕ → ℕ
balance_after cents line = cents + adjusted line - collected line

-- posted on a row: neither amount bad, not both above zero, the row live, and no adjustment that would pass 99,999,999.99
unfoldable pub is_posted_on : List ℕ → List ℕ → Bool
is_posted_on line row = is_right line && (is_live row && leb (balance row + adjusted line) most)

-- without a row it isn't posted
abbrev pub is_posted : List ℕ → Option (List ℕ) → Bool
is_posted line none = false
is_posted line (some row) = is_posted_on line row

-- a row with another balance: dollars in 66–73, cents in 197–198, D in 196 exactly when both are zero; all else kept
unfoldable pub with_balance : ℕ → List ℕ → List ℕ
with_balance cents row =
    placed 66 73 (digit_field 8 (cents / 100))
    (placed 196 196 (cond (eqb cents 0) D space ∷ [])
    (placed 197 198 (digit_field 2 (cents % 100)) row))

-- the row that a posted line leaves
unfoldable pub posted_row : List ℕ → List ℕ → List ℕ
posted_row line row = with_balance (balance_after (balance row) line) row

-- whether a line is posted, from the rows at its turn
unfoldable pub is_posted_in : List (List ℕ) → List ℕ → Bool
is_posted_in rows line = is_posted line (row_with (line_key line) rows)

abbrev pub stored : List ℕ → Option (List ℕ) → List (List ℕ) → List (List ℕ)
stored line none rows = rows
stored line (some row) rows = with_row (posted_row line row) rows

-- the rows after a line: a listed one leaves them alone
unfoldable pub after_line : List (List ℕ) → List ℕ → List (List ℕ)
after_line rows line = cond (is_posted_in rows line) (stored line (row_with (line_key line) rows) rows) rows

-- the rows after each line in turn
unfoldable pub after_lines : List (List ℕ) → List (List ℕ) → List (List ℕ)
after_lines rows [] = rows
after_lines rows (line ∷ lines) = after_lines (after_line rows line) lines

-- the lines that are posted, in file order
unfoldable pub posted_lines : List (List ℕ) → List (List ℕ) → List (List ℕ)
posted_lines rows [] = []
posted_lines rows (line ∷ lines) = cond (is_posted_in rows line) (line ∷ []) [] ++ posted_lines (after_line rows line) lines

-- the numbers of the lines that aren't, in file order, the first line's number being n
unfoldable pub listed_from : ℕ → List (List ℕ) → List (List ℕ) → List ℕ
listed_from n rows [] = []
listed_from n rows (line ∷ lines) = cond (is_posted_in rows line) [] (n ∷ []) ++ listed_from (suc n) (after_line rows line) lines

-- a line is listed by its number, from 1
abbrev pub listed : List (List ℕ) → List (List ℕ) → List ℕ
listed rows lines = listed_from 1 rows lines
