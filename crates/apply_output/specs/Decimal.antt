-- A number in decimal, as ASCII text without leading zeros. Assumes nothing.
use Rattle.std.specs.Prelude.{ℕ, zero, suc, ◌+◌, ◌/◌, ◌%◌, List, [], ◌∷◌, ◌++◌, cond, ltb}

-- a number below ten is its digit; any other is the text of its tenth part, then its last digit. It has at most `places` digits
unfoldable pub decimal_in : ℕ → ℕ → List ℕ
decimal_in zero n = []
decimal_in (suc places) n = cond (ltb n 10) ((0x30 + n) ∷ []) (decimal_in places (n / 10) ++ ((0x30 + n % 10) ∷ []))

-- no number has more digits than one more than itself
unfoldable pub decimal : ℕ → List ℕ
decimal n = decimal_in (suc n) n
