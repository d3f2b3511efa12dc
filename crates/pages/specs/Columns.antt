-- The lines of a page by their columns (proved of them in LineColumns). Assumes nothing.
use Rattle.std.specs.Prelude.{ℕ, ◌+◌, ◌-◌, ◌<◌, ◌≡◌, List, length, get_or}
use Rattle.text.specs.Fields.{columns, digit_field, number, spaces}
use Rattle.casemaster.specs.Row.{row_key, row_local_code, row_last_name, row_first_name, row_arrearage, row_exclusions}
use Rattle.pages.specs.Forms.{page_width, page_digits, bits_set, CASES, TOTAL}

-- the line of a row: no other 132 bytes have these columns
pub record IsLine (row line : List ℕ) : Type 0 where
  pub wide : length line ≡ page_width
  pub key : columns 1 12 line ≡ row_key row
  pub behind_key : columns 13 13 line ≡ spaces 1
  pub local_code : columns 14 16 line ≡ row_local_code row
  pub behind_code : columns 17 17 line ≡ spaces 1
  pub last_name : columns 18 37 line ≡ row_last_name row
  pub behind_last : columns 38 38 line ≡ spaces 1
  pub first_name : columns 39 53 line ≡ row_first_name row
  pub behind_first : columns 54 54 line ≡ spaces 1
  pub arrearage : columns 55 62 line ≡ row_arrearage row
  pub behind_arrearage : columns 63 63 line ≡ spaces 1
  pub bits : columns 64 64 line ≡ digit_field 1 (bits_set row)
  -- which is the count itself, since a byte has at most eight
  pub bits_counted : get_or (row_exclusions row) 0 0 < 256 → number (columns 64 64 line) ≡ bits_set row
  pub filler : columns 65 132 line ≡ spaces 68

-- the heading of the page with a number
pub record IsHeading (number : ℕ) (line : List ℕ) : Type 0 where
  pub wide : length line ≡ page_width
  pub word : columns 1 5 line ≡ CASES
  pub behind_word : columns 6 6 line ≡ spaces 1
  pub digits : columns 7 (6 + page_digits) line ≡ digit_field page_digits number
  pub filler : columns (7 + page_digits) 132 line ≡ spaces (page_width - 6 - page_digits)

-- the foot of a page with `lines` lines
pub record IsFoot (lines : ℕ) (line : List ℕ) : Type 0 where
  pub wide : length line ≡ page_width
  pub word : columns 1 5 line ≡ TOTAL
  pub behind_word : columns 6 6 line ≡ spaces 1
  pub digits : columns 7 10 line ≡ digit_field 4 lines
  pub filler : columns 11 132 line ≡ spaces 122
