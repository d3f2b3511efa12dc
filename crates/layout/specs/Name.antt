-- Document 01, error 05, over the first four columns of a last name. Assumes nothing.
use Rattle.std.specs.Prelude.{ℕ, List, [], ◌∷◌, Bool, true, false, cond, ◌&&◌, ◌||◌, eqb}
use Rattle.text.specs.Characters.{is_letter, hyphen}
use Rattle.text.specs.Fields.{at_least_one, is_blank}

-- a letter or a hyphen
unfoldable pub is_name_byte : ℕ → Bool
is_name_byte b = is_letter b || eqb b hyphen

-- letters or hyphens with only spaces behind
unfoldable pub is_name_rest : List ℕ → Bool
is_name_rest [] = true
is_name_rest (b ∷ bs) = cond (is_name_byte b) (is_name_rest bs) (is_blank (b ∷ bs))

-- one or more letters or hyphens with only spaces behind
unfoldable pub is_name : List ℕ → Bool
is_name [] = false
is_name (b ∷ bs) = is_name_byte b && is_name_rest bs

-- for A and B, and in a row, also a letter
unfoldable pub has_letter : List ℕ → Bool
has_letter s = at_least_one is_letter s
