-- Laws of a judgement's set as a number: it has errors alone or warnings alone, its bit 17 says whether it has a name, and a name's
-- characters are read again off five bits each. Assumes nothing.
use Prim.Native.Nat.{ℕ, zero, suc, ◌+◌, ◌-◌, ◌*◌, ◌/◌, ◌%◌, ◌^◌, ◌≤◌, ◌<◌}
use mathlib.Core.Path.{◌≡◌, refl, sym, ap, ◌∙◌, subst}
use mathlib.Core.Logic.{◌⊎◌, inl, inr, ⊎_elim}
use mathlib.Core.Bool.{Bool, true, false, cond, ◌||◌, or-false, false≢true}
use mathlib.Core.List.{List, [], ◌∷◌}
use mathlib.Core.Option.{Option, some}
use native.Mathlib.Nat.{add-zero, div-one, div-div-eq-div-mul, pow-suc, pow-succ', pow-le-pow_right, le_of_suc-le-suc, not-suc-le-zero, zero-lt-suc}
use native.Mathlib.Omega.{arith}
use borrow.Author.Tests.{leb-true, eqb-true, eq-eqb, ne_eqb}
use lib.Dec.{eqb, leb, lit≤, lit<}
use lib.ListN.{length}
use Rattle.text.specs.Options.{is_some}
use Rattle.text.specs.Characters.{within, is_byte, is_letter, space, hyphen}
use Rattle.text.specs.Fields.{columns, every, is_blank}
use Rattle.layout.specs.Name.{is_name_byte, is_name_rest, is_name}
use Rattle.layout.specs.Codes.{number_of_codes, codes_from, codes_of_number, RisingCodes}
use Rattle.layout.proofs.CodesLaws.{codes-number}
use Rattle.text.proofs.FieldsLaws.{and_left, and_right}
use Rattle.onecase.specs.Verdict.{Judgement, has_code, is_error, is_warning, is_rejected}
use Rattle.judging.proofs.CodeSums.{number_none}
use Rattle.onecase.proofs.JudgementLaws.{has_front, name_width}
use Rattle.onecase.proofs.JudgedLaws.{Judged, judged, rejected_some}
use Rattle.casemaster.proofs.SoundLaws.{sound_columns}
use Rattle.keywork.specs.Packed.{character_code, character_of, name_number, name_in, SoundOrNone, IsMachineJudgement}

-- ---- a code's bit in the number of its set

has_below : (d c a n : ℕ) → c < a → has_code c (codes_from d a n) ≡ false
unfolding codes_from
has_below zero c a n h = refl
has_below (suc d) c a n h =
    has_front c a (eqb (n % 2) 1) (codes_from d (suc a) (n / 2))
    ∙ rw (ne_eqb a c (λ e. omega arith), has_below d c (suc a) (n / 2) (omega arith))

has_bit : (d k a n : ℕ) → k < d → has_code (a + k) (codes_from d a n) ≡ eqb (n / 2 ^ k % 2) 1
unfolding codes_from
has_bit zero k a n h = absurd (not-suc-le-zero h)
has_bit (suc d) zero a n h =
    rw (add-zero a)
    (has_front a a (eqb (n % 2) 1) (codes_from d (suc a) (n / 2))
    ∙ rw (eq-eqb a a refl, has_below d a (suc a) (n / 2) (omega arith), or-false (eqb (n % 2) 1), div-one n))
has_bit (suc d) (suc k) a n h =
    let e : a + suc k ≡ suc a + k = omega arith in
    let p : n / 2 / 2 ^ k ≡ n / 2 ^ suc k = div-div-eq-div-mul n 2 (2 ^ k) ∙ ap (λ (x : ℕ). n / x) (sym (pow-succ' 2 k)) in
    has_front (a + suc k) a (eqb (n % 2) 1) (codes_from d (suc a) (n / 2))
    ∙ rw (ne_eqb a (a + suc k) (λ e. omega arith), e, ← p) (has_bit d k (suc a) (n / 2) (le_of_suc-le-suc h))

pub bit_17 : (n : ℕ) → has_code 17 (codes_of_number n) ≡ eqb (n / 2 ^ 17 % 2) 1
unfolding codes_of_number
bit_17 n = has_bit 64 17 0 n (lit< tt)

-- ---- errors alone, or warnings alone

-- errors from a on leave room for 2 to the power a
errors_room : (a : ℕ) (cs : List ℕ) → RisingCodes a 64 cs → every is_error cs ≡ true → a ≤ 19 → number_of_codes cs + 2 ^ a ≤ 2 ^ 19
errors_room a [] r t h = let p : 2 ^ a ≤ 2 ^ 19 = pow-le-pow_right (lit< tt) h in omega arith
errors_room a (c ∷ cs) r t h =
    let l : c ≤ 18 = leb-true c 18 (and_left (is_error c) (every is_error cs) t) in
    let p : 2 ^ a ≤ 2 ^ c = pow-le-pow_right (lit< tt) r.0 in
    let ih : number_of_codes cs + 2 ^ suc c ≤ 2 ^ 19 = errors_room (suc c) cs r.2 (and_right (is_error c) (every is_error cs) t) (omega arith) in
    omega (arith, pow-suc 2 c)

-- a set of warnings stands in its high part
pub record HighAlone (n : ℕ) : Type 0 where
  pub low : n % 2 ^ 19 ≡ 0
  pub high : n / 2 ^ 43 * 2 ^ 43 ≡ n

-- a set of errors stands in its low part, from bit 1 on
pub record LowAlone (n : ℕ) : Type 0 where
  pub some_code : 0 < n
  pub low : n < 2 ^ 19
  pub even : n % 2 ≡ 0

-- codes from 1 on leave bit 0 free
even_codes : (cs : List ℕ) → every (leb 1) cs ≡ true → number_of_codes cs % 2 ≡ 0
even_codes [] t = refl
even_codes (zero ∷ cs) t = absurd (false≢true (and_left (leb 1 0) (every (leb 1) cs) t))
even_codes (suc c ∷ cs) t =
    omega (arith, pow-suc 2 c, even_codes cs (and_right (leb 1 (suc c)) (every (leb 1) cs) t))

-- the bit of a code from 43 on
high_bit : (d : ℕ) → (k : ℕ) × (2 ^ (d + 43) ≡ k * 2 ^ 43)
high_bit zero = (1, refl)
high_bit (suc d) =
    let ih = high_bit d in
    let s : suc d + 43 ≡ suc (d + 43) = omega arith in
    (ih.0 * 2, ap (λ (n : ℕ). 2 ^ n) s ∙ pow-suc 2 (d + 43) ∙ omega (arith, ih.1))

-- codes from 43 on stand in the high part
high_codes : (cs : List ℕ) → every is_warning cs ≡ true → (k : ℕ) × (number_of_codes cs ≡ k * 2 ^ 43)
high_codes [] t = (0, refl)
high_codes (c ∷ cs) t =
    let ih = high_codes cs (and_right (is_warning c) (every is_warning cs) t) in
    let l : 51 ≤ c = leb-true 51 c (and_left (is_warning c) (every is_warning cs) t) in
    let s : c ≡ (c - 43) + 43 = omega arith in
    let b = high_bit (c - 43) in
    let p : 2 ^ c ≡ b.0 * 2 ^ 43 = ap (λ (n : ℕ). 2 ^ n) s ∙ b.1 in
    (b.0 + ih.0, omega (arith, p, ih.1))

high_alone : (n k : ℕ) → n ≡ k * 2 ^ 43 → HighAlone n
high_alone n k e = record { low = omega arith; high = omega arith }

-- ---- the characters of a name

or_either : (a b : Bool) → (a || b) ≡ true → (a ≡ true) ⊎ (b ≡ true)
or_either true b t = inl refl
or_either false b t = inr t

-- a letter's five bits: ten times its zone, and its digit
letter_of : (zone k : ℕ) → 10 * zone < k → k < 10 * zone + 10 → character_of k ≡ 0xC0 + zone * 16 + (k - 10 * zone)
letter_of zone k l h =
    let q : k / 10 ≡ zone = omega arith in
    let m : k % 10 ≡ k - 10 * zone = omega arith in
    rw (ne_eqb (k % 20) 0 (λ e. omega arith), q, m)

module _ (b : ℕ) where
  first_back : 0xC1 ≤ b → b ≤ 0xC9 → character_of (character_code b) ≡ b
  first_back l h =
      let q : b / 16 ≡ 12 = omega arith in
      let k : character_code b ≡ b - 0xC0 = rw q (omega arith) in
      let c = letter_of 0 (b - 0xC0) (omega arith) (omega arith) in
      ap character_of k ∙ c ∙ omega arith

  second_back : 0xD1 ≤ b → b ≤ 0xD9 → character_of (character_code b) ≡ b
  second_back l h =
      let q : b / 16 ≡ 13 = omega arith in
      let k : character_code b ≡ b - 0xC6 = rw q (omega arith) in
      let c = letter_of 1 (b - 0xC6) (omega arith) (omega arith) in
      ap character_of k ∙ c ∙ omega arith

  third_back : 0xE2 ≤ b → b ≤ 0xE9 → character_of (character_code b) ≡ b
  third_back l h =
      let q : b / 16 ≡ 14 = omega arith in
      let k : character_code b ≡ b - 0xCC = rw q (omega arith) in
      let c = letter_of 2 (b - 0xCC) (omega arith) (omega arith) in
      ap character_of k ∙ c ∙ omega arith

  space_back : b ≡ space → character_of (character_code b) ≡ b
  space_back e = rw e

  hyphen_back : b ≡ hyphen → character_of (character_code b) ≡ b
  hyphen_back e = rw e

  within-le : (low high : ℕ) → within low high b ≡ true → (low ≤ b) × (b ≤ high)
  within-le low high t = (leb-true low b (and_left (leb low b) (leb b high) t), leb-true b high (and_right (leb low b) (leb b high) t))

  letter_back : is_letter b ≡ true → character_of (character_code b) ≡ b
  unfolding is_letter
  letter_back t =
      ⊎_elim
      (λ (u : (within 0xC1 0xC9 b || within 0xD1 0xD9 b) ≡ true).
      ⊎_elim
      (λ (x : within 0xC1 0xC9 b ≡ true). let w = within-le 0xC1 0xC9 x in first_back w.0 w.1)
      (λ (x : within 0xD1 0xD9 b ≡ true). let w = within-le 0xD1 0xD9 x in second_back w.0 w.1)
      (or_either (within 0xC1 0xC9 b) (within 0xD1 0xD9 b) u))
      (λ (x : within 0xE2 0xE9 b ≡ true). let w = within-le 0xE2 0xE9 x in third_back w.0 w.1)
      (or_either (within 0xC1 0xC9 b || within 0xD1 0xD9 b) (within 0xE2 0xE9 b) t)

  name_byte_back : is_name_byte b ≡ true → character_of (character_code b) ≡ b
  unfolding is_name_byte
  name_byte_back t =
      ⊎_elim letter_back (λ (e : eqb b hyphen ≡ true). hyphen_back (eqb-true b hyphen e)) (or_either (is_letter b) (eqb b hyphen) t)

-- each character is read again
abbrev Back : List ℕ → Type 0
Back [] = Unit {0}
Back (b ∷ bs) = (character_of (character_code b) ≡ b) × Back bs

blank_back : (bs : List ℕ) → every (is_byte space) bs ≡ true → Back bs
blank_back [] t = tt
blank_back (b ∷ bs) t = (
  space_back b (eqb-true b space (and_left (is_byte space b) (every (is_byte space) bs) t)),
  blank_back bs (and_right (is_byte space b) (every (is_byte space) bs) t),
)

rest_back : (bs : List ℕ) → is_name_rest bs ≡ true → Back bs
unfolding is_name_rest is_blank
rest_back [] t = tt
rest_back (b ∷ bs) t = go (is_name_byte b) refl t (λ u. rest_back bs u)
  where
    go : (x : Bool) → is_name_byte b ≡ x → cond x (is_name_rest bs) (is_blank (b ∷ bs)) ≡ true → (is_name_rest bs ≡ true → Back bs) → Back (b ∷ bs)
    go true e t f = (name_byte_back b e, f t)
    go false e t f = blank_back (b ∷ bs) t

name_back : (bs : List ℕ) → is_name bs ≡ true → Back bs
unfolding is_name
name_back [] t = tt
name_back (b ∷ bs) t =
    (name_byte_back b (and_left (is_name_byte b) (is_name_rest bs) t), rest_back bs (and_right (is_name_byte b) (is_name_rest bs) t))

-- four times five bits, and one of the four again
module _ (x y z w n : ℕ) (hx : x < 32) (hy : y < 32) (hz : z < 32) (hw : w < 32) (e : n ≡ x + 32 * (y + 32 * (z + 32 * (w + 32 * 0)))) where
  digit_1 : n % 32 ≡ x
  digit_1 = omega arith

  digit_2 : n / 32 % 32 ≡ y
  digit_2 = omega arith

  digit_3 : n / 1024 % 32 ≡ z
  digit_3 = omega arith

  digit_4 : n / 32768 % 32 ≡ w
  digit_4 = omega arith

  four_of : (a b c d : ℕ) → character_of x ≡ a → character_of y ≡ b → character_of z ≡ c → character_of w ≡ d → name_in n ≡ a ∷ b ∷ c ∷ d ∷ []
  four_of a b c d p q r s = rw (digit_1, digit_2, digit_3, digit_4, p, q, r, s)

code_low : (b : ℕ) → character_code b < 32
code_low b = omega arith

four_back : (bs : List ℕ) → length bs ≡ 4 → Back bs → name_in (name_number bs) ≡ bs
four_back [] e h = absurd (omega arith)
four_back (a ∷ []) e h = absurd (omega arith)
four_back (a ∷ b ∷ []) e h = absurd (omega arith)
four_back (a ∷ b ∷ c ∷ []) e h = absurd (omega arith)
four_back (a ∷ b ∷ c ∷ d ∷ []) e h =
    four_of (character_code a) (character_code b) (character_code c) (character_code d) _ (code_low a) (code_low b) (code_low c) (code_low d) refl
    a b c d h.0 h.1.0 h.1.1.0 h.1.1.1.0
four_back (a ∷ b ∷ c ∷ d ∷ x ∷ xs) e h = absurd (omega arith)

-- ---- a judgement

abbrev pub set_number : Judgement → ℕ
set_number j = number_of_codes j.codes

-- what holds of a judgement's set and name
pub record JudgedSet (j : Judgement) : Type 0 where
  pub codes_are : codes_of_number (set_number j) ≡ j.codes
  pub errors_low : is_rejected j ≡ true → LowAlone (set_number j)
  pub warnings_high : is_rejected j ≡ false → HighAlone (set_number j)
  pub named : eqb (set_number j / 2 ^ 17 % 2) 1 ≡ is_some j.name
  pub name_again : (bytes : List ℕ) → j.name ≡ some bytes → name_in (name_number bytes) ≡ bytes

-- a rejection's set isn't empty
some_set : (j : Judgement) → is_rejected j ≡ true → (n : ℕ) → set_number j ≡ n → 0 < n
some_set j t zero z = absurd (rejected_some j t (number_none j.codes z))
some_set j t (suc n) z = zero-lt-suc n

-- a name of a sound row's is read again
name_read : (row : Option (List ℕ)) (j : Judgement) → Judged row j → SoundOrNone row → (bytes : List ℕ) → j.name ≡ some bytes
    → name_in (name_number bytes) ≡ bytes
name_read row j h s bytes e =
    let n = h.name_is bytes e in
    let k : SoundOrNone (some n.0) = subst SoundOrNone n.1 s in
    let f : name_in (name_number (columns 31 34 n.0)) ≡ columns 31 34 n.0 =
    four_back (columns 31 34 n.0) (name_width n.0 k.0) (name_back (columns 31 34 n.0) (sound_columns n.0 k.1).name_right) in
    subst (λ (z : List ℕ). name_in (name_number z) ≡ z) (sym n.2) f

pub judged_set : (j : Judgement) → IsMachineJudgement j → JudgedSet j
judged_set j i =
    let h : Judged i.row j = subst (Judged i.row) i.judged (judged i.setting i.row i.rec) in
    let c : codes_of_number (set_number j) ≡ j.codes = codes-number j.codes h.rises in
    record {
      codes_are = c;
      errors_low = λ t.
          let r = errors_room 0 j.codes h.rises (h.errors t) (lit≤ tt) in
          record { some_code = some_set j t (set_number j) refl; low = omega arith; even = even_codes j.codes h.positive };
      warnings_high = λ t. let k = high_codes j.codes (h.warnings t) in high_alone (set_number j) k.0 k.1;
      named = sym (bit_17 (set_number j)) ∙ ap (has_code 17) c ∙ h.named;
      name_again = name_read i.row j h i.row_sound;
    }
