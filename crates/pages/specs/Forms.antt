-- Document 02, item 12: the lines of a page, 132 columns each: that of a live row, the heading and the foot. Assumes nothing.
use Rattle.std.specs.Prelude.{ℕ, ◌-◌, List, [], ◌∷◌, ◌++◌, get_or}
use Rattle.std.specs.Int.Count.{ones}
use Rattle.text.specs.Characters.{A, C, E, L, O, S, letter_t}
use Rattle.text.specs.Fields.{digit_field, spaces}
use Rattle.casemaster.specs.Row.{row_key, row_local_code, row_last_name, row_first_name, row_arrearage, row_exclusions}

-- a line has 132 columns
abbrev pub page_width : ℕ
page_width = 132

-- six digits of page number (item 14; five in item 12)
unfoldable pub page_digits : ℕ
page_digits = 6

-- how many exclusion bits are set
abbrev pub bits_set : List ℕ → ℕ
bits_set row = ones (get_or (row_exclusions row) 0 0)

-- a line has the key, a space, the local code, last name, first name and arrearage as in the row with a space after each, how many
-- exclusion bits are set (one digit), then spaces to 132
unfoldable pub case_line : List ℕ → List ℕ
case_line row =
    row_key row ++ spaces 1 ++ row_local_code row ++ spaces 1 ++ row_last_name row ++ spaces 1 ++ row_first_name row ++ spaces 1
    ++ row_arrearage row ++ spaces 1 ++ digit_field 1 (bits_set row) ++ spaces 68

abbrev pub CASES : List ℕ
CASES = C ∷ A ∷ S ∷ E ∷ S ∷ []

abbrev pub TOTAL : List ℕ
TOTAL = letter_t ∷ O ∷ letter_t ∷ A ∷ L ∷ []

-- the heading is CASES, a space and the digits of page number, filled with spaces
unfoldable pub heading : ℕ → List ℕ
heading number = CASES ++ spaces 1 ++ digit_field page_digits number ++ spaces (page_width - 6 - page_digits)

-- the foot TOTAL, a space and four digits for the lines of this page, filled with spaces
unfoldable pub foot : ℕ → List ℕ
foot lines = TOTAL ++ spaces 1 ++ digit_field 4 lines ++ spaces 122
