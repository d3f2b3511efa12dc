-- Laws of digit fields, of any width: the number that digits write, and the digits that a number has. Assumes nothing.
use mathlib.Core.Path.{◌≡◌, refl, ap, ◌∙◌}
use mathlib.Core.Bool.{Bool, true, false}
use mathlib.Core.List.{List, [], ◌∷◌, ◌++◌, append_assoc}
use Prim.Native.Nat.{ℕ, zero, suc, ◌+◌, ◌-◌, ◌*◌, ◌/◌, ◌%◌, ◌^◌, ◌≤◌, ◌<◌}
use native.Mathlib.Nat.{pow-suc, pow-le-pow_right, lt_of_lt_of_le, div-div-eq-div-mul, div-eq_of_lt}
use native.Mathlib.Numerals.{add-one}
use native.Mathlib.Omega.{arith}
use lib.Dec.{eqb, leb, lit<, lit≤}
use lib.ListN.{length, get_or, take, drop, set, drop_of_length-le}
use lib.Seq.{drop-cons, take-suc, length-take-le, set_at}
use borrow.Author.Tests.{leb-true, le-leb, eqb-true}
use Rattle.text.specs.Characters.{is_byte, is_digit, zero_digit}
use Rattle.text.specs.Fields.{every, is_zero, all_digits, number_onto, number, digit_field}
use Rattle.text.proofs.FieldsLaws.{and_left, and_right}

-- ---- the number that digits write

-- a digit's bounds
pub digit_bounds : (b : ℕ) → is_digit b ≡ true → (0xF0 ≤ b) × (b ≤ 0xF9)
unfolding is_digit
digit_bounds b t = (leb-true _ _ (and_left (leb 0xF0 b) (leb b 0xF9) t), leb-true _ _ (and_right (leb 0xF0 b) (leb b 0xF9) t))

-- one digit read
pub number_step : (n : ℕ) (s : List ℕ) (i : ℕ) → i < length s → number_onto n (drop i s) ≡ number_onto (n * 10 + (get_or s i 0 - 0xF0)) (drop (i + 1) s)
number_step n s i h = rw (drop-cons s i 0 h, add-one i)

pub number_end : (n : ℕ) (s : List ℕ) (i : ℕ) → length s ≤ i → number_onto n (drop i s) ≡ n
number_end n s i h = rw (drop_of_length-le s h)

-- a number of k digits, with one digit more
pub digit_more : (n d k : ℕ) → n < 10 ^ k → d ≤ 9 → n * 10 + d < 10 ^ (k + 1)
digit_more n d k h l = rw (add-one k, pow-suc 10 k) (omega arith)

-- a number of fewer than 18 digits leaves room for one digit more
pub digits_fit : (n k : ℕ) → n < 10 ^ k → k < 18 → n * 10 + 9 < 10 ^ 18
digits_fit n k h l =
    let o : k + 1 ≤ 18 = omega arith in
    let p : 10 ^ (k + 1) ≤ 10 ^ 18 = pow-le-pow_right (lit< tt) o in
    lt_of_lt_of_le (digit_more n 9 k h (lit≤ tt)) p

-- digits onto a number of k digits
onto_bound : (n k : ℕ) (s : List ℕ) → n < 10 ^ k → every is_digit s ≡ true → number_onto n s < 10 ^ (k + length s)
onto_bound n k [] h t = let z : k + 0 ≡ k = omega arith in rw z h
onto_bound n k (b ∷ bs) h t =
    let d = digit_bounds b (and_left (is_digit b) (every is_digit bs) t) in
    let w : k + suc (length bs) ≡ k + 1 + length bs = omega arith in
    rw w (onto_bound (n * 10 + (b - 0xF0)) (k + 1) bs (digit_more n (b - 0xF0) k h (omega arith)) (and_right (is_digit b) (every is_digit bs) t))

pub number_below : (s : List ℕ) → all_digits s ≡ true → number s < 10 ^ length s
unfolding all_digits number
number_below s t = let b = onto_bound 0 0 s (lit< tt) t in let z : 0 + length s ≡ length s = omega arith in rw z at b

-- ---- zeros

zeros_onto : (s : List ℕ) → every (is_byte zero_digit) s ≡ true → number_onto 0 s ≡ 0
zeros_onto [] t = refl
zeros_onto (b ∷ bs) t =
    let e : b ≡ zero_digit = eqb-true b zero_digit (and_left (eqb b zero_digit) (every (is_byte zero_digit) bs) t) in
    rw e (zeros_onto bs (and_right (eqb b zero_digit) (every (is_byte zero_digit) bs) t))

pub zero_number : (s : List ℕ) → is_zero s ≡ true → number s ≡ 0
unfolding is_zero number
zero_number s t = zeros_onto s t

-- a number above zero is not written in zeros
pub number-not-zero : (s : List ℕ) → 1 ≤ number s → is_zero s ≡ false
number-not-zero s h = go (is_zero s) refl
  where
    go : (b : Bool) → is_zero s ≡ b → is_zero s ≡ false
    go true t = absurd (omega (arith, zero_number s t))
    go false f = f

-- ---- a number as a digit field

pub length_digits : (w n : ℕ) → length (digit_field w n) ≡ w
unfolding digit_field
length_digits zero n = refl
length_digits (suc w) n = ap suc (length_digits w n)

pub digits_digits : (w n : ℕ) → all_digits (digit_field w n) ≡ true
unfolding all_digits digit_field is_digit
digits_digits zero n = refl
digits_digits (suc w) n =
    let d = n / 10 ^ w % 10 in
    rw (le-leb 0xF0 (0xF0 + d) (omega arith), le-leb (0xF0 + d) 0xF9 (omega arith)) (digits_digits w n)

-- a digit less
pub less_digit : (w n : ℕ) → n / 10 ^ w / 10 ≡ n / 10 ^ suc w
less_digit w n = rw (div-div-eq-div-mul n (10 ^ w) 10, pow-suc 10 w)

-- the lowest digits of a number, onto its higher ones
digits_onto : (w n : ℕ) → number_onto (n / 10 ^ w) (digit_field w n) ≡ n
unfolding digit_field
digits_onto zero n = omega arith
digits_onto (suc w) n =
    let q = n / 10 ^ w in
    let e : n / 10 ^ suc w * 10 + (0xF0 + q % 10 - 0xF0) ≡ q = omega (arith, less_digit w n) in
    ap (λ (m : ℕ). number_onto m (digit_field w n)) e ∙ digits_onto w n

pub number_digits : (w n : ℕ) → n < 10 ^ w → number (digit_field w n) ≡ n
unfolding number
number_digits w n h = let z : n / 10 ^ w ≡ 0 = div-eq_of_lt h in rw z at (digits_onto w n)

-- one digit more is written in front of those that stand already
pub digit_written : (w n i : ℕ) (s r : List ℕ) → i < length s
    → set (take (suc i) s ++ digit_field w n ++ r) i (0xF0 + n / 10 ^ w % 10) ≡ take i s ++ digit_field (suc w) n ++ r
unfolding digit_field
digit_written w n i s r h =
    let d = 0xF0 + n / 10 ^ w % 10 in
    let t = length-take-le i s (omega arith) in
    rw (take-suc s i 0 h) (simp append_assoc (set_at (take i s) (get_or s i 0) (digit_field w n ++ r) d i t))
