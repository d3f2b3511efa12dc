-- Laws of the numbers of sound keys: they stand in the byte order of the keys, below 54,000. Assumes nothing.
use mathlib.Core.Path.{◌≡◌, ◌∙◌}
use mathlib.Core.Bool.{true, ◌&&◌}
use mathlib.Core.List.{List, [], ◌∷◌}
use Prim.Native.Nat.{ℕ, ◌+◌, ◌-◌, ◌*◌, ◌≤◌, ◌<◌}
use native.Mathlib.Omega.{arith}
use lib.ListN.{length, length-take, length-drop}
use Rattle.text.specs.ByteOrder.{less, equal, greater, order_of}
use Rattle.text.specs.Characters.{is_digit}
use Rattle.text.specs.Fields.{number, all_digits, are_digits}
use Rattle.layout.specs.States.{is_state}
use Rattle.layout.specs.StateCodes.{state_place}
use Rattle.text.proofs.FieldsLaws.{and_left, and_right, digits_width, digits_all}
use Rattle.text.proofs.NumberLaws.{digit_bounds}
use Rattle.text.proofs.ByteOrderLaws.{Heads, lower, upper, same, heads, order_lt, order_gt, order_eq, order_refl}
use Rattle.contactrecord.specs.ChartA3.{contact_state, contact_code, contact_key}
use Rattle.layout.proofs.StatePlaceLaws.{state_low, place_below, place_rises}
use Rattle.contactrecord.specs.Contact.{is_contact_key}
use Rattle.contactrecord.proofs.ContactLaws.{key_state, key_code}
use Rattle.contactupdate.specs.KeyNumbers.{key_number}

-- ---- the five bytes of a sound key

data Keyed : List ℕ → Type 0 where
  keyed : (a b c d e : ℕ) (rest : List ℕ) → b < 256 → (0xF0 ≤ c) × (c ≤ 0xF9) → (0xF0 ≤ d) × (d ≤ 0xF9) → (0xF0 ≤ e) × (e ≤ 0xF9)
      → is_state (a ∷ b ∷ []) ≡ true → Keyed (a ∷ b ∷ c ∷ d ∷ e ∷ rest)

three_digits : (c d e : ℕ) → all_digits (c ∷ d ∷ e ∷ []) ≡ true → (is_digit c && (is_digit d && (is_digit e && true))) ≡ true
unfolding all_digits
three_digits c d e w = w

keyed_of : (rec : List ℕ) → is_contact_key rec ≡ true → Keyed rec
keyed_of rec t = go rec (key_state rec t) (key_code rec t)
  where
    long : (r : List ℕ) → are_digits 3 (contact_code r) ≡ true → 5 ≤ length r
    long r u = let w = digits_width 3 (contact_code r) u in let w' = (simp (length-take, length-drop) at w) in omega arith

    go : (r : List ℕ) → is_state (contact_state r) ≡ true → are_digits 3 (contact_code r) ≡ true → Keyed r
    go [] s u = absurd (omega (arith, long [] u))
    go (a ∷ []) s u = absurd (omega (arith, long (a ∷ []) u))
    go (a ∷ b ∷ []) s u = absurd (omega (arith, long (a ∷ b ∷ []) u))
    go (a ∷ b ∷ c ∷ []) s u = absurd (omega (arith, long (a ∷ b ∷ c ∷ []) u))
    go (a ∷ b ∷ c ∷ d ∷ []) s u = absurd (omega (arith, long (a ∷ b ∷ c ∷ d ∷ []) u))
    go (a ∷ b ∷ c ∷ d ∷ e ∷ rest) s u =
        let v = three_digits c d e (digits_all 3 (c ∷ d ∷ e ∷ []) u) in
        let v₂ = and_right (is_digit c) (is_digit d && (is_digit e && true)) v in
        let v₃ = and_right (is_digit d) (is_digit e && true) v₂ in
        keyed a b c d e rest (state_low (a ∷ b ∷ []) s)
        (digit_bounds c (and_left (is_digit c) (is_digit d && (is_digit e && true)) v))
        (digit_bounds d (and_left (is_digit d) (is_digit e && true) v₂))
        (digit_bounds e (and_left (is_digit e) true v₃))
        s

abbrev code_number : ℕ → ℕ → ℕ → ℕ
code_number c d e = (c - 0xF0) * 100 + (d - 0xF0) * 10 + (e - 0xF0)

number_is : (a b c d e : ℕ) (rest : List ℕ)
    → key_number (a ∷ b ∷ c ∷ d ∷ e ∷ rest) ≡ state_place (a ∷ b ∷ []) * 1000 + code_number c d e
unfolding key_number number
number_is a b c d e rest = omega arith

-- every sound key has its place
pub key_number_below : (rec : List ℕ) → is_contact_key rec ≡ true → key_number rec < 54000
key_number_below rec t = go (keyed_of rec t)
  where
    go : {r : List ℕ} → Keyed r → key_number r < 54000
    go (keyed a b c d e rest bb cc₁ dd ee i) =
        omega (arith, number_is a b c d e rest, place_below (a ∷ b ∷ []) i)

-- ---- two sound keys

none : order_of [] [] ≡ equal
none = order_refl []

pub data Stand (r s : List ℕ) : Type 0 where
  below : key_number r < key_number s → order_of (contact_key r) (contact_key s) ≡ less → Stand r s
  level : key_number r ≡ key_number s → order_of (contact_key r) (contact_key s) ≡ equal → Stand r s
  above : key_number s < key_number r → order_of (contact_key r) (contact_key s) ≡ greater → Stand r s

module _ (a b c d e : ℕ) (r : List ℕ) (a' b' c' d' e' : ℕ) (r' : List ℕ)
    (bb : b < 256) (bc : (0xF0 ≤ c) × (c ≤ 0xF9)) (bd : (0xF0 ≤ d) × (d ≤ 0xF9)) (be : (0xF0 ≤ e) × (e ≤ 0xF9))
    (bb' : b' < 256) (bc' : (0xF0 ≤ c') × (c' ≤ 0xF9)) (bd' : (0xF0 ≤ d') × (d' ≤ 0xF9)) (be' : (0xF0 ≤ e') × (e' ≤ 0xF9))
    (i : is_state (a ∷ b ∷ []) ≡ true) (i' : is_state (a' ∷ b' ∷ []) ≡ true) where
  abbrev left : List ℕ
  left = a ∷ b ∷ c ∷ d ∷ e ∷ r

  abbrev right : List ℕ
  right = a' ∷ b' ∷ c' ∷ d' ∷ e' ∷ r'

  state_below : a * 256 + b < a' * 256 + b' → key_number left < key_number right
  state_below h = omega (arith, number_is a b c d e r, number_is a' b' c' d' e' r', place_rises (a ∷ b ∷ []) i (a' ∷ b' ∷ []) h)

  state_above : a' * 256 + b' < a * 256 + b → key_number right < key_number left
  state_above h = omega (arith, number_is a b c d e r, number_is a' b' c' d' e' r', place_rises (a' ∷ b' ∷ []) i' (a ∷ b ∷ []) h)

  places : a ≡ a' → b ≡ b' → state_place (a ∷ b ∷ []) ≡ state_place (a' ∷ b' ∷ [])
  places p q = rw (p, q)

  code_below : a ≡ a' → b ≡ b' → code_number c d e < code_number c' d' e' → key_number left < key_number right
  code_below p q h = omega (arith, number_is a b c d e r, number_is a' b' c' d' e' r', places p q)

  code_above : a ≡ a' → b ≡ b' → code_number c' d' e' < code_number c d e → key_number right < key_number left
  code_above p q h = omega (arith, number_is a b c d e r, number_is a' b' c' d' e' r', places p q)

  code_level : a ≡ a' → b ≡ b' → code_number c d e ≡ code_number c' d' e' → key_number left ≡ key_number right
  code_level p q h = omega (arith, number_is a b c d e r, number_is a' b' c' d' e' r', places p q)

  two : Stand left right
  two = go₁ (heads a a')
    where
      o₁ : a ≡ a' → order_of (contact_key left) (contact_key right) ≡ order_of (b ∷ c ∷ d ∷ e ∷ []) (b' ∷ c' ∷ d' ∷ e' ∷ [])
      o₁ h = order_eq a a' (b ∷ c ∷ d ∷ e ∷ []) (b' ∷ c' ∷ d' ∷ e' ∷ []) h

      o₂ : a ≡ a' → b ≡ b' → order_of (contact_key left) (contact_key right) ≡ order_of (c ∷ d ∷ e ∷ []) (c' ∷ d' ∷ e' ∷ [])
      o₂ h k = o₁ h ∙ order_eq b b' (c ∷ d ∷ e ∷ []) (c' ∷ d' ∷ e' ∷ []) k

      o₃ : a ≡ a' → b ≡ b' → c ≡ c' → order_of (contact_key left) (contact_key right) ≡ order_of (d ∷ e ∷ []) (d' ∷ e' ∷ [])
      o₃ h k l = o₂ h k ∙ order_eq c c' (d ∷ e ∷ []) (d' ∷ e' ∷ []) l

      o₄ : a ≡ a' → b ≡ b' → c ≡ c' → d ≡ d' → order_of (contact_key left) (contact_key right) ≡ order_of (e ∷ []) (e' ∷ [])
      o₄ h k l m = o₃ h k l ∙ order_eq d d' (e ∷ []) (e' ∷ []) m

      go₅ : a ≡ a' → b ≡ b' → c ≡ c' → d ≡ d' → Heads e e' → Stand left right
      go₅ p q l m (lower h) = below (code_below p q (omega arith)) (o₄ p q l m ∙ order_lt e e' [] [] h)
      go₅ p q l m (upper h) = above (code_above p q (omega arith)) (o₄ p q l m ∙ order_gt e e' [] [] h)
      go₅ p q l m (same h) = level (code_level p q (omega arith)) (o₄ p q l m ∙ order_eq e e' [] [] h ∙ none)

      go₄ : a ≡ a' → b ≡ b' → c ≡ c' → Heads d d' → Stand left right
      go₄ p q l (lower h) = below (code_below p q (omega arith)) (o₃ p q l ∙ order_lt d d' (e ∷ []) (e' ∷ []) h)
      go₄ p q l (upper h) = above (code_above p q (omega arith)) (o₃ p q l ∙ order_gt d d' (e ∷ []) (e' ∷ []) h)
      go₄ p q l (same h) = go₅ p q l h (heads e e')

      go₃ : a ≡ a' → b ≡ b' → Heads c c' → Stand left right
      go₃ p q (lower h) = below (code_below p q (omega arith)) (o₂ p q ∙ order_lt c c' (d ∷ e ∷ []) (d' ∷ e' ∷ []) h)
      go₃ p q (upper h) = above (code_above p q (omega arith)) (o₂ p q ∙ order_gt c c' (d ∷ e ∷ []) (d' ∷ e' ∷ []) h)
      go₃ p q (same h) = go₄ p q h (heads d d')

      go₂ : a ≡ a' → Heads b b' → Stand left right
      go₂ p (lower h) = below (state_below (omega arith)) (o₁ p ∙ order_lt b b' (c ∷ d ∷ e ∷ []) (c' ∷ d' ∷ e' ∷ []) h)
      go₂ p (upper h) = above (state_above (omega arith)) (o₁ p ∙ order_gt b b' (c ∷ d ∷ e ∷ []) (c' ∷ d' ∷ e' ∷ []) h)
      go₂ p (same h) = go₃ p h (heads c c')

      go₁ : Heads a a' → Stand left right
      go₁ (lower h) = below (state_below (omega arith)) (order_lt a a' (b ∷ c ∷ d ∷ e ∷ []) (b' ∷ c' ∷ d' ∷ e' ∷ []) h)
      go₁ (upper h) = above (state_above (omega arith)) (order_gt a a' (b ∷ c ∷ d ∷ e ∷ []) (b' ∷ c' ∷ d' ∷ e' ∷ []) h)
      go₁ (same h) = go₂ h (heads b b')

pub keys_stand : (r s : List ℕ) → is_contact_key r ≡ true → is_contact_key s ≡ true → Stand r s
keys_stand r s t u = go (keyed_of r t) (keyed_of s u)
  where
    go : {r s : List ℕ} → Keyed r → Keyed s → Stand r s
    go (keyed a b c d e rest h₁ h₂ h₃ h₄ i) (keyed a' b' c' d' e' rest' k₁ k₂ k₃ k₄ i') =
        two a b c d e rest a' b' c' d' e' rest' h₁ h₂ h₃ h₄ k₁ k₂ k₃ k₄ i i'
