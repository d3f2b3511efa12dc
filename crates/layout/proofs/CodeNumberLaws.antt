-- Laws of byte strings of one width looked up by the numbers that they write: membership, order, and the numbers of blocks, over any width;
-- and the number of three bytes. Assumes nothing.
use mathlib.Core.Path.{◌≡◌, refl, sym, ap, ◌∙◌}
use mathlib.Core.Bool.{Bool, true, false}
use mathlib.Core.List.{List, [], ◌∷◌, map}
use Prim.Native.Nat.{ℕ, zero, suc, ◌+◌, ◌*◌, ◌≤◌, ◌<◌}
use native.Mathlib.Nat.{suc-mul}
use native.Mathlib.Omega.{arith}
use borrow.Author.Tests.{eqb-true, eqb-false}
use lib.Dec.{eqb}
use lib.ListN.{length, take, drop, get_or, length-drop, length-map, get_or-map}
use lib.Seq.{drop-cons, length-take-le}
use Rattle.text.specs.Fields.{same_bytes, is_one_of}
use Rattle.text.specs.Blocks.{blocks}
use Rattle.text.specs.ByteOrder.{below_first, rising}
use Rattle.text.specs.ByteNumbers.{AreBytes, bytes_number}
use Rattle.layout.specs.StateCodes.{rising_numbers, is_in}
use Rattle.text.proofs.BlocksLaws.{length-blocks, blocks_get}
use Rattle.text.proofs.ByteNumberLaws.{bytes_take, bytes_drop, number_order, number_same}
use Rattle.text.proofs.SameLaws.{same_eq, eq_same, same_lengths}

-- ---- three bytes from index i on

pub three_number_lem : (s : List ℕ) (i : ℕ) → i + 3 ≤ length s
    → (get_or s i 0 * 256 + get_or s (i + 1) 0) * 256 + get_or s (i + 2) 0 ≡ bytes_number (take 3 (drop i s))
unfolding bytes_number
three_number_lem s i h =
    rw (next 2 i (i + 1) (omega arith) (omega arith), next 1 (i + 1) (i + 2) (omega arith) (omega arith))
    (rw (next 0 (i + 2) (i + 3) (omega arith) (omega arith)) (omega arith))
  where
    next : (k j m : ℕ) → suc j ≡ m → j < length s → take (suc k) (drop j s) ≡ get_or s j 0 ∷ take k (drop m s)
    next k j m e l = rw (drop-cons s j 0 l, e)

-- ---- strings of one width

same_number : (s t : List ℕ) → length s ≡ length t → AreBytes s → AreBytes t → same_bytes s t ≡ eqb (bytes_number s) (bytes_number t)
same_number s t e p q = go (same_bytes s t) (eqb (bytes_number s) (bytes_number t)) refl refl
  where
    go : (a b : Bool) → same_bytes s t ≡ a → eqb (bytes_number s) (bytes_number t) ≡ b → a ≡ b
    go true true f g = refl
    go true false f g = absurd (eqb-false (bytes_number s) (bytes_number t) g (ap bytes_number (same_eq s t f)))
    go false true f g = sym f ∙ eq_same s t (number_same s t e p q (eqb-true (bytes_number s) (bytes_number t) g))
    go false false f g = refl

module _ (w : ℕ) where
  -- each is w bytes
  abbrev pub AreWide : List (List ℕ) → Type 0
  AreWide [] = Unit {0}
  AreWide (s ∷ ss) = ((length s ≡ w) × AreBytes s) × AreWide ss

  -- a string of w bytes is one of them where its number is one of theirs
  pub one_of_numbers : (s : List ℕ) → length s ≡ w → AreBytes s → (ts : List (List ℕ)) → AreWide ts
      → is_one_of s ts ≡ is_in (bytes_number s) (map bytes_number ts)
  unfolding is_one_of
  one_of_numbers s e p [] r = refl
  one_of_numbers s e p (t ∷ ts) r =
      rw (same_number s t (e ∙ sym r.0.0) p r.0.1, one_of_numbers s e p ts r.1)

  -- what has another length is not one of them
  pub one_of_no_width : (s : List ℕ) → (length s ≡ w → ⊥) → (ts : List (List ℕ)) → AreWide ts → is_one_of s ts ≡ false
  unfolding is_one_of
  one_of_no_width s h [] r = refl
  one_of_no_width s h (t ∷ ts) r = rw (same_lengths s t (λ e. h (e ∙ r.0.0)), one_of_no_width s h ts r.1)

  -- they rise in byte order where their numbers do
  pub rising_as_numbers : (ts : List (List ℕ)) → AreWide ts → rising ts ≡ rising_numbers (map bytes_number ts)
  unfolding rising below_first
  rising_as_numbers [] r = refl
  rising_as_numbers (s ∷ []) r = refl
  rising_as_numbers (s ∷ t ∷ ts) r =
      rw (number_order s t (r.0.0 ∙ sym r.1.0.0) r.0.1 r.1.0.1, rising_as_numbers (t ∷ ts) r.1)

  -- ---- the numbers of n blocks

  pub blocks_wide : (n : ℕ) (xs : List ℕ) → n * w ≤ length xs → AreBytes xs → AreWide (blocks w n xs)
  unfolding blocks
  blocks_wide zero xs h p = tt
  blocks_wide (suc n) xs h p =
      let e = suc-mul n w in
      let r : n * w ≤ length (drop w xs) = rw (length-drop w xs) (omega (arith, e)) in
      ((length-take-le w xs (omega (arith, e)), bytes_take w xs p), blocks_wide n (drop w xs) r (bytes_drop w xs p))

  pub length-numbers : (n : ℕ) (xs : List ℕ) → length (map bytes_number (blocks w n xs)) ≡ n
  length-numbers n xs = length-map (blocks w n xs) bytes_number ∙ length-blocks w n xs

  pub number_at : (n : ℕ) (xs : List ℕ) (i : ℕ) → i < n
      → get_or (map bytes_number (blocks w n xs)) i 0 ≡ bytes_number (take w (drop (i * w) xs))
  unfolding bytes_number
  number_at n xs i l = get_or-map bytes_number (blocks w n xs) i [] ∙ ap bytes_number (blocks_get w n xs i l)
