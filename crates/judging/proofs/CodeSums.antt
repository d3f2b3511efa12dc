-- The number of a list of codes, each where it holds, is the sum of its parts' numbers; and such a list rises. Assumes nothing.
use Prim.Native.Nat.{ℕ, zero, suc, ◌+◌, ◌^◌, ◌≤◌, ◌<◌}
use mathlib.Core.Path.{◌≡◌, refl, sym}
use mathlib.Core.Bool.{Bool, true, false}
use mathlib.Core.List.{List, [], ◌∷◌, ◌++◌}
use native.Mathlib.Nat.{pow-suc}
use native.Mathlib.Omega.{arith}
use lib.Dec.{lit<}
use Rattle.layout.specs.Codes.{number_of_codes, RisingCodes}
use Rattle.layout.proofs.CodesLaws.{rising_from}
use Rattle.judging.specs.Errors.{code}

two_pos : (c : ℕ) → 0 < 2 ^ c
two_pos zero = lit< tt
two_pos (suc c) = rw (pow-suc 2 c) (omega (arith, two_pos c))

pub number-code : (c : ℕ) (holds : Bool) (rest : List ℕ) → number_of_codes (code c holds ++ rest) ≡ number_of_codes (code c holds) + number_of_codes rest
number-code c true rest = omega arith
number-code c false rest = omega arith

pub sum-code : (c : ℕ) (holds : Bool) (rest : List ℕ) (m n : ℕ) → m ≡ number_of_codes (code c holds) → n ≡ number_of_codes rest → m + n ≡ number_of_codes (code c holds ++ rest)
sum-code c holds rest m n e d = rw (e, d) (sym (number-code c holds rest))

-- rising codes, as a type that shows its list
pub record Rises (a e : ℕ) (cs : List ℕ) : Type 0 where
  pub rises : RisingCodes a e cs

pub rising-code : (holds : Bool) {rest : List ℕ} (a e c : ℕ) → a ≤ c → c < e → Rises (suc c) e rest → Rises a e (code c holds ++ rest)
rising-code holds {rest} a e c h l r = record { rises = go holds }
  where
    go : (b : Bool) → RisingCodes a e (code c b ++ rest)
    go true = (h, l, r.rises)
    go false = rising_from a (suc c) e rest (omega arith) r.rises

pub rising-last : (holds : Bool) (a e c : ℕ) → a ≤ c → c < e → Rises a e (code c holds)
rising-last holds a e c h l = record { rises = go holds }
  where
    go : (b : Bool) → RisingCodes a e (code c b)
    go true = (h, l, tt)
    go false = tt

-- no code has the number 0
pub number_none : (cs : List ℕ) → number_of_codes cs ≡ 0 → cs ≡ []
number_none [] e = refl
number_none (c ∷ cs) e = absurd (omega (arith, two_pos c))
