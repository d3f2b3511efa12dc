-- For the contracts of inner functions; no rule of the papers stands here.
-- The codes of the state table as numbers, in which they are looked up. Assumes nothing.
use Rattle.std.specs.Prelude.{ℕ, ◌+◌, ◌*◌, List, [], ◌∷◌, map, Bool, true, false, cond, ◌&&◌, ◌||◌, eqb, ltb, get_or}
use Rattle.layout.specs.States.{state_table}

-- a two-byte code as a number, the first byte the higher
abbrev pub code_of : List ℕ → ℕ
code_of s = get_or s 0 0 * 256 + get_or s 1 0

unfoldable pub state_codes : List ℕ
state_codes = map code_of state_table

-- each number is below the next
abbrev pub rising_numbers : List ℕ → Bool
rising_numbers [] = true
rising_numbers (x ∷ []) = true
rising_numbers (x ∷ y ∷ l) = ltb x y && rising_numbers (y ∷ l)

-- x is in the list
abbrev pub is_in : ℕ → List ℕ → Bool
is_in x [] = false
is_in x (y ∷ ys) = eqb x y || is_in x ys

unfoldable pub is_state_code : ℕ → Bool
is_state_code x = is_in x state_codes

-- how many numbers of a list are below x
unfoldable pub count_below : ℕ → List ℕ → ℕ
count_below x [] = 0
count_below x (y ∷ ys) = cond (ltb y x) 1 0 + count_below x ys

-- the place of a state in the table, the first being 0: how many states' numbers are below its own
unfoldable pub state_place : List ℕ → ℕ
state_place s = count_below (code_of s) state_codes
