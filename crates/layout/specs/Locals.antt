-- Document 01, refusal 2 and errors 10 and 51: the list of local codes. Assumes nothing.
use Rattle.std.specs.Prelude.{ℕ, ◌/◌, ◌%◌, List, [], ◌∷◌, Bool, ◌&&◌, length, eqb}
use Rattle.text.specs.Characters.{zero_digit}
use Rattle.text.specs.Fields.{are_digits, is_one_of, every}
use Rattle.text.specs.Blocks.{blocks}
use Rattle.text.specs.ByteOrder.{rising}

-- 000, the state's own
abbrev pub zero_local_code : List ℕ
zero_local_code = zero_digit ∷ zero_digit ∷ zero_digit ∷ []

-- the codes of a list, three bytes each
unfoldable pub codes_of_list : List ℕ → List (List ℕ)
codes_of_list list = blocks 3 (length list / 3) list

-- listed: one of the codes
unfoldable pub is_listed : List ℕ → List ℕ → Bool
is_listed code list = is_one_of code (codes_of_list list)

-- refusal 2 asks: three-digit codes, three bytes each, strictly rising; an empty list passes
unfoldable pub is_local_list : List ℕ → Bool
is_local_list list =
    eqb (length list % 3) 0 && (every (are_digits 3) (codes_of_list list) && rising (codes_of_list list))
