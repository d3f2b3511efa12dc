-- For the contracts of inner functions; no rule of the papers stands here.
-- A detail's name, whether it gives it and the rest of its number in one, by which the details of a key are sorted. Assumes nothing.
use Rattle.std.specs.Prelude.{ℕ, ◌+◌, ◌*◌, ◌/◌, ◌%◌, ◌^◌, ◌≤◌, ◌<◌, List, Bool, cond, eqb, get_or}
use Rattle.text.specs.Fields.{at_least_one}
use Rattle.text.specs.ByteNumbers.{bytes_number}
use Rattle.judging.specs.Names.{gives_name}
use Rattle.keyorder.specs.Tagged.{index_part, record_of}
use Rattle.namemarks.specs.Marks.{name_at, rest_part}

-- the four bytes of the name from bit 32 on, in bit 31 whether the detail doesn't give it, the rest below
unfoldable pub name_code : List ℕ → List ℕ → ℕ → ℕ
name_code state batch n =
    bytes_number (name_at batch (index_part n)) * 2 ^ 32 + cond (gives_name state (record_of batch n)) 0 1 * 2 ^ 31 + rest_part n

-- one of the codes has the name of x and gives it
unfoldable pub has_giver : List ℕ → ℕ → Bool
has_giver codes x = at_least_one (λ y. eqb (y / 2 ^ 31) (x / 2 ^ 32 * 2)) codes

-- the rest of x below its rank again, with one more where the name of x is given
abbrev pub swept : ℕ → List ℕ → ℕ → ℕ
swept rank codes x = rank * 2 ^ 32 + x % 2 ^ 31 * 2 + cond (has_giver codes x) 1 0

-- the first n numbers do not fall
abbrev pub NotFalling : ℕ → List ℕ → Type 0
NotFalling n numbers = (q p : ℕ) → q < p → p < n → get_or numbers q 0 ≤ get_or numbers p 0
