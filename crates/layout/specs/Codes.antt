-- Document 01, "Applying a batch": a set of codes as a number, and the columns 228–239 of a reject record. Assumes nothing.
use Rattle.std.specs.Prelude.{ℕ, zero, suc, ◌+◌, ◌/◌, ◌%◌, ◌^◌, ◌≤◌, ◌<◌, List, [], ◌∷◌, ◌++◌, cond, eqb}
use Rattle.text.specs.Characters.{space}

-- the number of a set of codes: the sum of 2 to the power c over its codes c
abbrev pub number_of_codes : List ℕ → ℕ
number_of_codes [] = 0
number_of_codes (c ∷ cs) = 2 ^ c + number_of_codes cs

-- the codes among the d lowest bits of n, the lowest bit being code c
unfoldable pub codes_from : ℕ → ℕ → ℕ → List ℕ
codes_from zero c n = []
codes_from (suc d) c n = cond (eqb (n % 2) 1) (c ∷ []) [] ++ codes_from d (suc c) (n / 2)

-- the set that a 64-bit number stands for, as the rising list of its codes
unfoldable pub codes_of_number : ℕ → List ℕ
codes_of_number n = codes_from 64 0 n

-- rising codes from a on, all below e
abbrev pub RisingCodes : ℕ → ℕ → List ℕ → Type 0
RisingCodes a e [] = Unit {0}
RisingCodes a e (c ∷ cs) = (a ≤ c) × (c < e) × RisingCodes (suc c) e cs

-- the lowest codes in places of two digits each, rising; unused places are spaces
unfoldable pub codes_text : ℕ → List ℕ → List ℕ
codes_text zero cs = []
codes_text (suc places) [] = space ∷ space ∷ codes_text places []
codes_text (suc places) (c ∷ cs) = (0xF0 + c / 10) ∷ (0xF0 + c % 10) ∷ codes_text places cs

-- the six lowest codes in 228–239
unfoldable pub six_lowest : List ℕ → List ℕ
six_lowest cs = codes_text 6 cs
