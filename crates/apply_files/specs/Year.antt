-- Document 01, "The printed line": year.txt, four ASCII digits. Assumes nothing.
use Rattle.std.specs.Prelude.{ℕ, ◌+◌, ◌-◌, ◌*◌, List, [], ◌∷◌, Bool, cond, ◌&&◌, eqb, length}
use Rattle.std.proofs.Math.Option.{Option, none, some}
use Rattle.text.specs.Characters.{within}
use Rattle.text.specs.Fields.{every}
use Rattle.std.specs.Prelude.{Some, None}
use Rattle.std.specs.Prelude as Code

-- ASCII digits are 30–39 (hexadecimal)
abbrev pub is_ascii_digit : ℕ → Bool
is_ascii_digit b = within 0x30 0x39 b

-- the number that ASCII digits write, onto what stands before them
abbrev pub ascii_number_onto : ℕ → List ℕ → ℕ
ascii_number_onto n [] = n
ascii_number_onto n (b ∷ bs) = ascii_number_onto (n * 10 + (b - 0x30)) bs

-- the year of year.txt: none where it isn't exactly four ASCII digits, a line feed behind them included
unfoldable pub year_in : List ℕ → Option ℕ
year_in text = cond (eqb (length text) 4 && every is_ascii_digit text) (some (ascii_number_onto 0 text)) none

-- what each answer stands for
abbrev pub year_of : Code.Option ℕ → Option ℕ
year_of (Some n) = some n
year_of None = none
