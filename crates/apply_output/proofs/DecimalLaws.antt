-- The fewest digits that hold a number are its decimal text. Assumes nothing.
use mathlib.Core.Path.{◌≡◌, refl}
use mathlib.Core.Bool.{Bool, true, false, cond}
use mathlib.Core.List.{[], ◌∷◌, ◌++◌}
use Prim.Native.Nat.{ℕ, zero, suc, ◌+◌, ◌-◌, ◌/◌, ◌%◌, ◌^◌, ◌≤◌, ◌<◌}
use native.Mathlib.Nat.{pow-suc, pow-zero, pow-le-pow_right}
use native.Mathlib.Omega.{arith}
use lib.Dec.{ltb, leb}
use borrow.Author.Tests.{lt-ltb, ltb-true, ltb-false, leb-true, leb-false}
use Rattle.io.specs.Digits.{hex_digit_ascii, last_digits, IsDigitCount}
use Rattle.apply_output.specs.Decimal.{decimal_in, decimal}

glyph_digit : (d : ℕ) → d < 10 → hex_digit_ascii d ≡ 0x30 + d
glyph_digit d h = rw (lt-ltb d 10 h)

module _ (n r : ℕ) where
  -- more than one place: the highest is in use
  used : IsDigitCount 10 1 n (suc (suc r)) → 10 ^ suc r ≤ n
  used f = let e : suc (suc r) - 1 ≡ suc r = omega arith in rw e at (f.2 (omega arith))

-- one place less holds the tenth part
tenth : (n r : ℕ) → IsDigitCount 10 1 n (suc r) → 10 ≤ n → IsDigitCount 10 1 (n / 10) r
tenth n zero f h = absurd (omega (arith, f.1, pow-suc 10 0, pow-zero 10))
tenth n (suc r) f h =
    let e : suc r - 1 ≡ r = omega arith in
    (omega arith, omega (arith, f.1, pow-suc 10 (suc r)), λ g. rw e (omega (arith, used n r f, pow-suc 10 r)))

-- one place alone holds a number below ten
one_place : (n r : ℕ) → IsDigitCount 10 1 n r → n < 10 → r ≡ 1
one_place n zero f h = absurd (omega (arith, f.0))
one_place n (suc zero) f h = refl
one_place n (suc (suc r)) f h =
    let low : 0 ≤ r = omega arith in
    let one : 10 ^ 0 ≤ 10 ^ r = pow-le-pow_right (omega arith) low in
    absurd (omega (arith, used n r f, pow-suc 10 r, pow-zero 10))

-- the last digit stands behind those of the tenth part
split : (n r places : ℕ) → 10 ≤ n → IsDigitCount 10 1 n r → ((k : ℕ) → IsDigitCount 10 1 (n / 10) k → last_digits 10 k (n / 10) ≡ decimal_in places (n / 10))
    → last_digits 10 r n ≡ decimal_in places (n / 10) ++ ((0x30 + n % 10) ∷ [])
split n zero places h f given = absurd (omega (arith, f.0))
split n (suc r) places h f given = rw (given r (tenth n r f h), glyph_digit (n % 10) (omega arith))

-- by the last digit: a number below ten, or any other
by_last : (n r places : ℕ) → IsDigitCount 10 1 n r → (10 ≤ n → (k : ℕ) → IsDigitCount 10 1 (n / 10) k → last_digits 10 k (n / 10) ≡ decimal_in places (n / 10))
    → (t : Bool) → ltb n 10 ≡ t → last_digits 10 r n ≡ cond t ((0x30 + n) ∷ []) (decimal_in places (n / 10) ++ ((0x30 + n % 10) ∷ []))
by_last n r places f given true e =
    let l : n < 10 = ltb-true n 10 e in
    let m : n % 10 ≡ n = omega arith in
    rw (one_place n r f l, m, e)
by_last n r places f given false e = split n r places (ltb-false n 10 e) f (given (ltb-false n 10 e))

fewest_in : (places n r : ℕ) → n < places → IsDigitCount 10 1 n r → last_digits 10 r n ≡ decimal_in places n
unfolding decimal_in
fewest_in zero n r h f = absurd (omega arith)
fewest_in (suc places) n r h f = by_last n r places f (λ l k g. fewest_in places (n / 10) k (omega arith) g) (ltb n 10) refl

pub fewest_decimal : (n r : ℕ) → IsDigitCount 10 1 n r → last_digits 10 r n ≡ decimal n
unfolding decimal
fewest_decimal n r f = fewest_in (suc n) n r (omega arith) f

-- a 64-bit number takes at most twenty digits
pub twenty_places : (n k : ℕ) → n < 18446744073709551616 → IsDigitCount 10 1 n k → k ≤ 20
twenty_places n k h f = go (leb k 20) refl
  where
    go : (t : Bool) → leb k 20 ≡ t → k ≤ 20
    go true e = leb-true k 20 e
    go false e =
        let l : 20 < k = leb-false k 20 e in
        let low : 10 ^ (k - 1) ≤ n = f.2 (omega arith) in
        let p : 20 ≤ k - 1 = omega arith in
        let power : 100000000000000000000 ≤ 10 ^ (k - 1) = pow-le-pow_right (omega arith) p in
        absurd (omega arith)
