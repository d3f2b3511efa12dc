-- Laws of a set's codes: the lowest is the count of trailing zeros, their number the count of ones; of their text; and of the number
-- of rising codes, off which they are read again. Assumes nothing.
use mathlib.Core.Path.{◌≡◌, refl, sym, ap, ◌∙◌}
use mathlib.Core.Logic.{◌⊎◌, inl, inr, ⊎_elim}
use mathlib.Core.List.{List, [], ◌∷◌}
use Prim.Native.Nat.{ℕ, zero, suc, ◌+◌, ◌-◌, ◌*◌, ◌/◌, ◌%◌, ◌^◌, min, ◌≤◌, ◌<◌}
use native.Mathlib.Nat.{add-zero, zero-add, sub-zero, mul-zero, mul-suc, mul_assoc, one-mul, pow-suc, pow-le-pow_right, eq-or-lt_of_le, le_of_suc-le-suc, not-suc-le-zero, zero-lt-suc}
use native.Mathlib.Omega.{arith}
use native.Mathlib.Numerals.{add-one}
use lib.Count.{count_trailing_zeros, ones, ones_in, ones_step}
use lib.Dec.{lit<, lit≤}
use lib.ListN.{length, get_or, take, set}
use Rattle.layout.specs.Codes.{number_of_codes, codes_from, codes_of_number, RisingCodes, codes_text}

parity : (n : ℕ) → (n % 2 ≡ 0) ⊎ (n % 2 ≡ 1)
parity n = go (n % 2) (omega arith)
  where
    go : (b : ℕ) → b < 2 → (b ≡ 0) ⊎ (b ≡ 1)
    go zero h = inl refl
    go (suc zero) h = inr refl
    go (suc (suc b)) h = absurd (not-suc-le-zero (le_of_suc-le-suc (le_of_suc-le-suc h)))

-- ---- the lowest code, and how many there are

-- the bit at the count of trailing zeros is one of the d, and set
trailing_set : (d n : ℕ) → 0 < n → n < 2 ^ d → (count_trailing_zeros d n < d) × (2 ^ count_trailing_zeros d n ≤ n)
unfolding count_trailing_zeros
trailing_set zero n p h = omega arith
trailing_set (suc d) n p h =
    let s : n < 2 ^ d * 2 = rw (pow-suc 2 d) at h in
    ⊎_elim
    (λ (e : n % 2 ≡ 0).
    let t = count_trailing_zeros d (n / 2) in
    let ih = trailing_set d (n / 2) (omega arith) (omega arith) in
    rw (e, pow-suc 2 t) (omega arith, omega arith))
    (λ (e : n % 2 ≡ 1). rw e (zero-lt-suc d, p))
    (parity n)

-- a set that is not empty: its lowest code, and the codes without it
lowest_from : (d i n : ℕ) → 0 < n → n < 2 ^ d → codes_from d i n ≡ (i + count_trailing_zeros d n) ∷ codes_from d i (n - 2 ^ count_trailing_zeros d n)
unfolding codes_from count_trailing_zeros
lowest_from zero i n p h = let z : ⊥ = omega arith in absurd z
lowest_from (suc d) i n p h =
    let s : n < 2 ^ d * 2 = rw (pow-suc 2 d) at h in
    ⊎_elim
    (λ (e : n % 2 ≡ 0).
    let t = count_trailing_zeros d (n / 2) in
    let w : 2 ^ suc t ≡ 2 ^ t * 2 = pow-suc 2 t in
    let f : (n - 2 ^ t * 2) % 2 ≡ 0 = omega arith in
    let g : (n - 2 ^ t * 2) / 2 ≡ n / 2 - 2 ^ t = omega arith in
    let k : suc i + t ≡ i + suc t = omega arith in
    rw (e, w, f, g, ← k) (lowest_from d (suc i) (n / 2) (omega arith) (omega arith)))
    (λ (e : n % 2 ≡ 1).
    let f : (n - 1) % 2 ≡ 0 = omega arith in
    let g : (n - 1) / 2 ≡ n / 2 = omega arith in
    rw (e, add-zero, f, g))
    (parity n)

ones_zero : ones 0 ≡ 0
unfolding ones ones_in
ones_zero = refl

-- as many codes as ones
count_from : (d i n : ℕ) → n < 2 ^ d → length (codes_from d i n) ≡ ones n
unfolding codes_from
count_from zero i n h = let z : n ≡ 0 = omega arith in rw z (sym ones_zero)
count_from (suc d) i n h =
    let s : n < 2 ^ d * 2 = rw (pow-suc 2 d) at h in
    let ih = count_from d (suc i) (n / 2) (omega arith) in
    ⊎_elim
    (λ (e : n % 2 ≡ 0). rw e (omega (arith, ones_step n)))
    (λ (e : n % 2 ≡ 1). rw e (omega (arith, ones_step n)))
    (parity n)

module _ (n : ℕ) (h : n < 2 ^ 64) where
  pub lowest_codes : 0 < n → codes_of_number n ≡ count_trailing_zeros 64 n ∷ codes_of_number (n - 2 ^ count_trailing_zeros 64 n)
  unfolding codes_of_number
  lowest_codes p = lowest_from 64 0 n p h ∙ rw (zero-add (count_trailing_zeros 64 n))

  pub count_codes : length (codes_of_number n) ≡ ones n
  unfolding codes_of_number
  count_codes = count_from 64 0 n h

  pub lowest_place : 0 < n → (count_trailing_zeros 64 n < 64) × (2 ^ count_trailing_zeros 64 n ≤ n)
  lowest_place p = trailing_set 64 n p h

-- a set with a code is not empty
pub codes_pos : (n : ℕ) → 0 < length (codes_of_number n) → 0 < n
codes_pos zero h = omega (arith, count_codes 0 (lit< tt), ones_zero)
codes_pos (suc n) h = zero-lt-suc n

-- ---- the text

abbrev double : ℕ → ℕ
double zero = zero
double (suc k) = suc (suc (double k))

double_is : (k : ℕ) → double k ≡ 2 * k
double_is zero = refl
double_is (suc k) = let e = double_is k in omega arith

-- one code more is written at its place
text_at : (m k : ℕ) (cs : List ℕ) → k < m → k < length cs
    → set (set (codes_text m (take k cs)) (double k) (0xF0 + get_or cs k 0 / 10)) (suc (double k)) (0xF0 + get_or cs k 0 % 10) ≡ codes_text m (take (suc k) cs)
unfolding codes_text
text_at zero k cs h l = absurd (not-suc-le-zero h)
text_at (suc m) k [] h l = absurd (not-suc-le-zero l)
text_at (suc m) zero (c ∷ cs) h l = refl
text_at (suc m) (suc k) (c ∷ cs) h l =
    ap (λ (t : List ℕ). (0xF0 + c / 10) ∷ (0xF0 + c % 10) ∷ t) (text_at m k cs (le_of_suc-le-suc h) (le_of_suc-le-suc l))

pub text_more : (m k : ℕ) (cs : List ℕ) → k < m → k < length cs
    → set (set (codes_text m (take k cs)) (2 * k) (0xF0 + get_or cs k 0 / 10)) (2 * k + 1) (0xF0 + get_or cs k 0 % 10) ≡ codes_text m (take (k + 1) cs)
text_more m k cs h l = rw (← double_is k, add-one (double k), add-one k) (text_at m k cs h l)

-- no more than m codes are in m places
pub text_all : (m n : ℕ) (cs : List ℕ) → n ≡ min m (length cs) → codes_text m (take n cs) ≡ codes_text m cs
unfolding codes_text
text_all m n cs e = cut m n cs (omega arith)
  where
    cut : (m n : ℕ) (cs : List ℕ) → min m (length cs) ≤ n → codes_text m (take n cs) ≡ codes_text m cs
    cut zero n cs h = refl
    cut (suc m) zero [] h = refl
    cut (suc m) (suc n) [] h = refl
    cut (suc m) zero (c ∷ cs) h = let z : ⊥ = omega arith in absurd z
    cut (suc m) (suc n) (c ∷ cs) h = ap (λ (t : List ℕ). (0xF0 + c / 10) ∷ (0xF0 + c % 10) ∷ t) (cut m n cs (omega arith))

pub length-text : (places : ℕ) (cs : List ℕ) → length (codes_text places cs) ≡ 2 * places
unfolding codes_text
length-text zero cs = refl
length-text (suc m) [] = let e = length-text m [] in omega arith
length-text (suc m) (c ∷ cs) = let e = length-text m cs in omega arith

-- ---- rising codes, and their number

-- codes from a lower one on
pub rising_from : (a b e : ℕ) (cs : List ℕ) → a ≤ b → RisingCodes b e cs → RisingCodes a e cs
rising_from a b e [] l h = tt
rising_from a b e (c ∷ cs) l h = (omega arith, h.1, h.2)

-- the number of codes from a on leaves room for 2 to the power a
number_room : (a e : ℕ) (cs : List ℕ) → a ≤ e → RisingCodes a e cs → number_of_codes cs + 2 ^ a ≤ 2 ^ e
number_room a e [] l h = let p : 2 ^ a ≤ 2 ^ e = pow-le-pow_right (lit< tt) l in omega arith
number_room a e (c ∷ cs) l h =
    let p : 2 ^ a ≤ 2 ^ c = pow-le-pow_right (lit< tt) h.0 in
    let ih : number_of_codes cs + 2 ^ suc c ≤ 2 ^ e = number_room (suc c) e cs h.1 h.2 in
    omega (arith, pow-suc 2 c)

-- the number of a set of codes below 64 is one of 64 bits
pub number_bound : (cs : List ℕ) → RisingCodes 0 64 cs → number_of_codes cs < 2 ^ 64
number_bound cs h = let r = number_room 0 64 cs (lit≤ tt) h in omega arith

-- the number of a set of codes, divided by 2 to the power a
offset_sum : ℕ → List ℕ → ℕ
offset_sum a [] = 0
offset_sum a (c ∷ cs) = 2 ^ (c - a) + offset_sum a cs

over_zero : (cs : List ℕ) → offset_sum 0 cs ≡ number_of_codes cs
unfolding offset_sum
over_zero [] = refl
over_zero (c ∷ cs) = rw (sub-zero c, over_zero cs)

over-suc : (a e : ℕ) (cs : List ℕ) → RisingCodes (suc a) e cs → offset_sum a cs ≡ 2 * offset_sum (suc a) cs
unfolding offset_sum
over-suc a e [] h = refl
over-suc a e (c ∷ cs) h =
    let p : c - a ≡ suc (c - suc a) = omega arith in
    rw (p, over-suc a e cs (rising_from (suc a) (suc c) e cs (omega arith) h.2)) (omega (arith, pow-suc 2 (c - suc a)))

codes-over : (d a n : ℕ) (cs : List ℕ) → RisingCodes a (a + d) cs → n ≡ offset_sum a cs → codes_from d a n ≡ cs
unfolding offset_sum codes_from
codes-over zero a n [] h e = refl
codes-over zero a n (c ∷ cs) h e = absurd (omega arith)
codes-over (suc d) a n [] h e = let z : n % 2 ≡ 0 = omega arith in rw z (codes-over d (suc a) (n / 2) [] tt (omega arith))
codes-over (suc d) a n (c ∷ cs) h e =
    let top : a + suc d ≡ suc a + d = omega arith in
    ⊎_elim
    (λ (t : a ≡ c).
    let k : RisingCodes (suc a) (a + suc d) cs = rising_from (suc a) (suc c) (a + suc d) cs (omega arith) h.2 in
    let q : offset_sum a cs ≡ 2 * offset_sum (suc a) cs = over-suc a (a + suc d) cs k in
    let z : c - a ≡ 0 = omega arith in
    let o : n ≡ 1 + offset_sum a cs = rw z at e in
    let b : n % 2 ≡ 1 = omega arith in
    let r : codes_from d (suc a) (n / 2) ≡ cs = codes-over d (suc a) (n / 2) cs (rw top at k) (omega arith) in
    rw (b, r, t))
    (λ (l : a < c).
    let q : offset_sum a (c ∷ cs) ≡ 2 * offset_sum (suc a) (c ∷ cs) = over-suc a (a + suc d) (c ∷ cs) (l, h.1, h.2) in
    let b : n % 2 ≡ 0 = omega arith in
    rw b (codes-over d (suc a) (n / 2) (c ∷ cs) (l, omega arith, rw top at h.2) (omega arith)))
    (eq-or-lt_of_le h.0)

-- the set that the number of a set of codes below 64 stands for is that set
pub codes-number : (cs : List ℕ) → RisingCodes 0 64 cs → codes_of_number (number_of_codes cs) ≡ cs
unfolding codes_of_number
codes-number cs h = codes-over 64 0 (number_of_codes cs) cs h (sym (over_zero cs))

-- the number of the codes among the d lowest bits of n, the lowest bit being code c
pub number_from : (d c n : ℕ) → n < 2 ^ d → number_of_codes (codes_from d c n) ≡ 2 ^ c * n
unfolding codes_from
number_from zero c n h = let z : n ≡ 0 = omega arith in rw (z, mul-zero (2 ^ c))
number_from (suc d) c n h =
    let s : n < 2 ^ d * 2 = rw (pow-suc 2 d) at h in
    let m : 2 ^ suc c * (n / 2) ≡ 2 ^ c * (2 * (n / 2)) = rw (pow-suc 2 c) (mul_assoc (2 ^ c) 2 (n / 2)) in
    let ih : number_of_codes (codes_from d (suc c) (n / 2)) ≡ 2 ^ c * (2 * (n / 2)) = number_from d (suc c) (n / 2) (omega arith) ∙ m in
    ⊎_elim
    (λ (e : n % 2 ≡ 0).
    let w : 2 * (n / 2) ≡ n = omega arith in
    rw (e, ih, w))
    (λ (e : n % 2 ≡ 1).
    let w : suc (2 * (n / 2)) ≡ n = omega arith in
    let x : 2 ^ c * n ≡ 2 ^ c * (2 * (n / 2)) + 2 ^ c = rw (← mul-suc (2 ^ c) (2 * (n / 2)), w) in
    rw e (omega arith))
    (parity n)

-- the number of the set that a number of 64 bits stands for is that number
pub number-codes : (n : ℕ) → n < 2 ^ 64 → number_of_codes (codes_of_number n) ≡ n
unfolding codes_of_number
number-codes n h = number_from 64 0 n h ∙ one-mul n
