-- Document 01, error 02, over the nine columns of an SSN. Assumes nothing.
use Rattle.std.specs.Prelude.{ℕ, List, Bool, not, ◌&&◌, ◌||◌, eqb, ltb}
use Rattle.text.specs.Fields.{columns, is_zero, are_digits, number}

-- area is the first three digits, group the next two, serial the last four
abbrev pub area : List ℕ → ℕ
area s = number (columns 1 3 s)

abbrev pub group : List ℕ → ℕ
group s = number (columns 4 5 s)

abbrev pub serial : List ℕ → ℕ
serial s = number (columns 6 9 s)

-- 02: SSN not nine digits, or all zero; or below area 900 with area 000 or 666, group 00 or serial 0000
unfoldable pub wrong_ssn : List ℕ → Bool
wrong_ssn s =
    not (are_digits 9 s) || is_zero s
    || ltb (area s) 900 && (eqb (area s) 0 || eqb (area s) 666 || eqb (group s) 0 || eqb (serial s) 0)
