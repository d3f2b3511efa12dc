-- Laws of an SSN by the number of its first eight bytes and its last byte: its digits and its parts, and all zero as one that isn't
-- issued. Assumes nothing.
use mathlib.Core.Path.{◌≡◌, refl, sym, ap, ◌∙◌}
use mathlib.Core.Bool.{Bool, true, false, ◌&&◌, ◌||◌, and-true, and_assoc}
use mathlib.Core.List.{List, [], ◌∷◌, ◌++◌}
use Prim.Native.Nat.{ℕ, suc, ◌+◌, ◌*◌, ◌/◌, ◌%◌, ◌≤◌, ◌<◌}
use native.Mathlib.Omega.{arith}
use lib.Dec.{eqb, ltb, leb}
use lib.ListN.{length, get_or, take, drop}
use lib.Seq.{drop-cons, take-add, take_all}
use borrow.Author.Tests.{eqb-true, eqb-false, eq-eqb, ne_eqb, ltb-true, ltb-false, lt-ltb, le-ltb}
use Rattle.text.specs.Characters.{is_byte, is_digit, zero_digit}
use Rattle.text.specs.Fields.{columns, every, is_zero, all_digits, are_digits, number}
use Rattle.text.specs.ByteNumbers.{bytes_number}
use Rattle.text.proofs.FieldsLaws.{and_left, and_right, every-columns, digits_width, digits_all}
use Rattle.text.proofs.NumberLaws.{digit_bounds, zero_number}
use Rattle.layout.specs.Ssn.{area, group, serial}
use Rattle.layout.proofs.LocalsLaws.{every_append}

-- ---- one test for another

same_eqb : (x y u v : ℕ) → (x ≡ y → u ≡ v) → (u ≡ v → x ≡ y) → eqb x y ≡ eqb u v
same_eqb x y u v f g = go (eqb u v) refl
  where
    go : (p : Bool) → eqb u v ≡ p → eqb x y ≡ p
    go true e = eq-eqb x y (g (eqb-true u v e))
    go false e = ne_eqb x y (λ z. eqb-false u v e (f z))

both_eqb : (x y u v r t : ℕ) → (x ≡ y → u ≡ v → r ≡ t) → (r ≡ t → x ≡ y) → (r ≡ t → u ≡ v) → (eqb x y && eqb u v) ≡ eqb r t
both_eqb x y u v r t f g h = go (eqb r t) refl
  where
    go : (p : Bool) → eqb r t ≡ p → (eqb x y && eqb u v) ≡ p
    go true e = rw (eq-eqb x y (g (eqb-true r t e)), eq-eqb u v (h (eqb-true r t e)))
    go false e = other (eqb x y) refl
      where
        other : (p : Bool) → eqb x y ≡ p → (p && eqb u v) ≡ false
        other true d = ne_eqb u v (λ z. eqb-false r t e (f (eqb-true x y d) z))
        other false d = refl

same_ltb : (x y u v : ℕ) → (x < y → u < v) → (y ≤ x → v ≤ u) → ltb x y ≡ ltb u v
same_ltb x y u v f g = go (ltb x y) refl
  where
    go : (p : Bool) → ltb x y ≡ p → p ≡ ltb u v
    go true e = sym (lt-ltb u v (f (ltb-true x y e)))
    go false e = sym (le-ltb u v (g (ltb-false x y e)))

-- ---- nine digits

abbrev Digit : ℕ → Type 0
Digit x = (0xF0 ≤ x) × (x ≤ 0xF9)

data Nine : List ℕ → Type 0 where
  nine : (a b c d e f g h i : ℕ) → Digit a → Digit b → Digit c → Digit d → Digit e → Digit f → Digit g → Digit h → Digit i
      → Nine (a ∷ b ∷ c ∷ d ∷ e ∷ f ∷ g ∷ h ∷ i ∷ [])

nine_of : (s : List ℕ) → are_digits 9 s ≡ true → Nine s
unfolding all_digits
nine_of [] t = absurd (let x : 0 ≡ 9 = digits_width 9 [] t in omega arith)
nine_of (a ∷ []) t = absurd (let x : 1 ≡ 9 = digits_width 9 (a ∷ []) t in omega arith)
nine_of (a ∷ b ∷ []) t = absurd (let x : 2 ≡ 9 = digits_width 9 (a ∷ b ∷ []) t in omega arith)
nine_of (a ∷ b ∷ c ∷ []) t = absurd (let x : 3 ≡ 9 = digits_width 9 (a ∷ b ∷ c ∷ []) t in omega arith)
nine_of (a ∷ b ∷ c ∷ d ∷ []) t = absurd (let x : 4 ≡ 9 = digits_width 9 (a ∷ b ∷ c ∷ d ∷ []) t in omega arith)
nine_of (a ∷ b ∷ c ∷ d ∷ e ∷ []) t = absurd (let x : 5 ≡ 9 = digits_width 9 (a ∷ b ∷ c ∷ d ∷ e ∷ []) t in omega arith)
nine_of (a ∷ b ∷ c ∷ d ∷ e ∷ f ∷ []) t = absurd (let x : 6 ≡ 9 = digits_width 9 (a ∷ b ∷ c ∷ d ∷ e ∷ f ∷ []) t in omega arith)
nine_of (a ∷ b ∷ c ∷ d ∷ e ∷ f ∷ g ∷ []) t = absurd (let x : 7 ≡ 9 = digits_width 9 (a ∷ b ∷ c ∷ d ∷ e ∷ f ∷ g ∷ []) t in omega arith)
nine_of (a ∷ b ∷ c ∷ d ∷ e ∷ f ∷ g ∷ h ∷ []) t = absurd (let x : 8 ≡ 9 = digits_width 9 (a ∷ b ∷ c ∷ d ∷ e ∷ f ∷ g ∷ h ∷ []) t in omega arith)
nine_of (a ∷ b ∷ c ∷ d ∷ e ∷ f ∷ g ∷ h ∷ i ∷ []) t =
    let p = digits_all 9 (a ∷ b ∷ c ∷ d ∷ e ∷ f ∷ g ∷ h ∷ i ∷ []) t in
    let a' = and_right (is_digit a) (every is_digit (b ∷ c ∷ d ∷ e ∷ f ∷ g ∷ h ∷ i ∷ [])) p in
    let b' = and_right (is_digit b) (every is_digit (c ∷ d ∷ e ∷ f ∷ g ∷ h ∷ i ∷ [])) a' in
    let c' = and_right (is_digit c) (every is_digit (d ∷ e ∷ f ∷ g ∷ h ∷ i ∷ [])) b' in
    let d' = and_right (is_digit d) (every is_digit (e ∷ f ∷ g ∷ h ∷ i ∷ [])) c' in
    let e' = and_right (is_digit e) (every is_digit (f ∷ g ∷ h ∷ i ∷ [])) d' in
    let f' = and_right (is_digit f) (every is_digit (g ∷ h ∷ i ∷ [])) e' in
    let g' = and_right (is_digit g) (every is_digit (h ∷ i ∷ [])) f' in
    let h' = and_right (is_digit h) (every is_digit (i ∷ [])) g' in
    nine a b c d e f g h i
    (digit_bounds a (and_left (is_digit a) (every is_digit (b ∷ c ∷ d ∷ e ∷ f ∷ g ∷ h ∷ i ∷ [])) p))
    (digit_bounds b (and_left (is_digit b) (every is_digit (c ∷ d ∷ e ∷ f ∷ g ∷ h ∷ i ∷ [])) a'))
    (digit_bounds c (and_left (is_digit c) (every is_digit (d ∷ e ∷ f ∷ g ∷ h ∷ i ∷ [])) b'))
    (digit_bounds d (and_left (is_digit d) (every is_digit (e ∷ f ∷ g ∷ h ∷ i ∷ [])) c'))
    (digit_bounds e (and_left (is_digit e) (every is_digit (f ∷ g ∷ h ∷ i ∷ [])) d'))
    (digit_bounds f (and_left (is_digit f) (every is_digit (g ∷ h ∷ i ∷ [])) e'))
    (digit_bounds g (and_left (is_digit g) (every is_digit (h ∷ i ∷ [])) f'))
    (digit_bounds h (and_left (is_digit h) (every is_digit (i ∷ [])) g'))
    (digit_bounds i (and_left (is_digit i) (every is_digit []) h'))
nine_of (a ∷ b ∷ c ∷ d ∷ e ∷ f ∷ g ∷ h ∷ i ∷ j ∷ s) t = absurd (let x : suc (suc (suc (suc (suc (suc (suc (suc (suc (suc (length s)))))))))) ≡ 9 = digits_width 9 (a ∷ b ∷ c ∷ d ∷ e ∷ f ∷ g ∷ h ∷ i ∷ j ∷ s) t in omega arith)

-- ---- its parts, as they are written and as numbers

module _ (a b c : ℕ) (da : Digit a) (db : Digit b) (dc : Digit c) where
  three_nine : ltb (a * 65536 + b * 256 + c) 0xF90000 ≡ ltb (number (a ∷ b ∷ c ∷ [])) 900
  unfolding number
  three_nine = same_ltb (a * 65536 + b * 256 + c) 0xF90000 (number (a ∷ b ∷ c ∷ [])) 900 (λ t. omega (arith, da, db, dc, t)) (λ t. omega (arith, da, db, dc, t))

  three_zero : eqb (a * 65536 + b * 256 + c) 0xF0F0F0 ≡ eqb (number (a ∷ b ∷ c ∷ [])) 0
  unfolding number
  three_zero = same_eqb (a * 65536 + b * 256 + c) 0xF0F0F0 (number (a ∷ b ∷ c ∷ [])) 0 (λ t. omega (arith, da, db, dc, t)) (λ t. omega (arith, da, db, dc, t))

  three_six : eqb (a * 65536 + b * 256 + c) 0xF6F6F6 ≡ eqb (number (a ∷ b ∷ c ∷ [])) 666
  unfolding number
  three_six = same_eqb (a * 65536 + b * 256 + c) 0xF6F6F6 (number (a ∷ b ∷ c ∷ [])) 666 (λ t. omega (arith, da, db, dc, t)) back
    where
      back : number (a ∷ b ∷ c ∷ []) ≡ 666 → a * 65536 + b * 256 + c ≡ 0xF6F6F6
      back t =
          let x : a ≡ 0xF6 = omega (arith, da, db, dc, t) in
          let y : b ≡ 0xF6 = omega (arith, da, db, dc, t, x) in
          omega (arith, t, x, y)

two_zero : (d e : ℕ) → Digit d → Digit e → eqb (d * 256 + e) 0xF0F0 ≡ eqb (number (d ∷ e ∷ [])) 0
unfolding number
two_zero d e dd de = same_eqb (d * 256 + e) 0xF0F0 (number (d ∷ e ∷ [])) 0 (λ t. omega (arith, dd, de, t)) (λ t. omega (arith, dd, de, t))

four_zero : (f g h i : ℕ) → Digit f → Digit g → Digit h → Digit i
    → (eqb (f * 65536 + g * 256 + h) 0xF0F0F0 && eqb i 0xF0) ≡ eqb (number (f ∷ g ∷ h ∷ i ∷ [])) 0
unfolding number
four_zero f g h i df dg dh di =
    both_eqb (f * 65536 + g * 256 + h) 0xF0F0F0 i 0xF0 (number (f ∷ g ∷ h ∷ i ∷ [])) 0 (λ t u. omega (arith, df, dg, dh, di, t, u))
    (λ t. omega (arith, df, dg, dh, di, t)) (λ t. omega (arith, df, dg, dh, di, t))

parts_nine : (s : List ℕ) → Nine s
    → (ltb (bytes_number (take 8 s) / 0x10000000000) 0xF90000
    && (eqb (bytes_number (take 8 s) / 0x10000000000) 0xF0F0F0 || eqb (bytes_number (take 8 s) / 0x10000000000) 0xF6F6F6
    || eqb (bytes_number (take 8 s) / 0x1000000 % 0x10000) 0xF0F0 || (eqb (bytes_number (take 8 s) % 0x1000000) 0xF0F0F0 && eqb (get_or s 8 0) 0xF0)))
    ≡ (ltb (area s) 900 && (eqb (area s) 0 || eqb (area s) 666 || eqb (group s) 0 || eqb (serial s) 0))
unfolding bytes_number
parts_nine s (nine a b c d e f g h i da db dc dd de df dg dh di) =
    let w = bytes_number (a ∷ b ∷ c ∷ d ∷ e ∷ f ∷ g ∷ h ∷ []) in
    let x : w / 0x10000000000 ≡ a * 65536 + b * 256 + c = omega (arith, da, db, dc, dd, de, df, dg, dh) in
    let y : w / 0x1000000 % 0x10000 ≡ d * 256 + e = omega (arith, da, db, dc, dd, de, df, dg, dh) in
    let z : w % 0x1000000 ≡ f * 65536 + g * 256 + h = omega (arith, da, db, dc, dd, de, df, dg, dh) in
    rw (x, y, z, three_nine a b c da db dc, three_zero a b c da db dc, three_six a b c da db dc, two_zero d e dd de, four_zero f g h i df dg dh di)

pub unissued_parts : (s : List ℕ) → are_digits 9 s ≡ true
    → (ltb (bytes_number (take 8 s) / 0x10000000000) 0xF90000
    && (eqb (bytes_number (take 8 s) / 0x10000000000) 0xF0F0F0 || eqb (bytes_number (take 8 s) / 0x10000000000) 0xF6F6F6
    || eqb (bytes_number (take 8 s) / 0x1000000 % 0x10000) 0xF0F0 || (eqb (bytes_number (take 8 s) % 0x1000000) 0xF0F0F0 && eqb (get_or s 8 0) 0xF0)))
    ≡ (ltb (area s) 900 && (eqb (area s) 0 || eqb (area s) 666 || eqb (group s) 0 || eqb (serial s) 0))
unissued_parts s t = parts_nine s (nine_of s t)

-- all zero is below area 900 with area 000
pub zero_unissued : (s : List ℕ) (x g r : Bool)
    → (is_zero s || ltb (area s) 900 && (eqb (area s) 0 || x || g || r)) ≡ (ltb (area s) 900 && (eqb (area s) 0 || x || g || r))
unfolding is_zero
zero_unissued s x g r = go (is_zero s) refl
  where
    go : (p : Bool) → is_zero s ≡ p
        → (p || ltb (area s) 900 && (eqb (area s) 0 || x || g || r)) ≡ (ltb (area s) 900 && (eqb (area s) 0 || x || g || r))
    go true z = let e : area s ≡ 0 = zero_number (columns 1 3 s) (every-columns (is_byte zero_digit) 1 3 s z) in rw e
    go false z = refl

-- nine digits are eight and one
digits_nine : (s : List ℕ) → length s ≡ 9 → are_digits 9 s ≡ (all_digits (take 8 s) && is_digit (get_or s 8 0))
unfolding are_digits all_digits
digits_nine s l =
    let w : take 1 (drop 8 s) ≡ get_or s 8 0 ∷ [] = rw (drop-cons s 8 0 (omega arith)) in
    let e : s ≡ take 8 s ++ get_or s 8 0 ∷ [] = sym (take_all 9 s (omega arith)) ∙ take-add 8 1 s ∙ ap (λ (t : List ℕ). take 8 s ++ t) w in
    rw (eq-eqb (length s) 9 l) (ap (every is_digit) e ∙ every_append is_digit (take 8 s) (get_or s 8 0 ∷ []) ∙ rw (and-true (is_digit (get_or s 8 0))))

-- by what is known of both
pub digits_known : (s : List ℕ) → length s ≡ 9 → (d : Bool) (last : ℕ) → d ≡ all_digits (take 8 s) → last ≡ get_or s 8 0
    → (d && leb 0xF0 last && leb last 0xF9) ≡ are_digits 9 s
unfolding is_digit
digits_known s l d last e f =
    and_assoc d (leb 0xF0 last) (leb last 0xF9) ∙ sym (rw (digits_nine s l, ← e, ← f))
