-- Laws of bytes as one number, with the same done to each byte at once: a mask laid over it, a number added, its comparison with one byte
-- throughout; and the test for digits that is made of these. Assumes nothing.
use mathlib.Core.Path.{◌≡◌, refl, sym, ap, ◌∙◌}
use mathlib.Core.Bool.{Bool, true, false, ◌&&◌, and_assoc, and-true}
use mathlib.Core.List.{List, [], ◌∷◌, map}
use Prim.Native.Nat.{ℕ, ◌+◌, ◌*◌, ◌<◌}
use native.Mathlib.Omega.{arith}
use lib.Bits.{bit_and, and_block, and_le_r}
use lib.Dec.{eqb, lit<}
use lib.ListN.{length, replicate, length-map}
use borrow.Author.Tests.{eqb-true, eqb-false, eq-eqb, ne_eqb}
use Rattle.text.specs.Characters.{is_byte, is_digit}
use Rattle.text.specs.Fields.{every, is_blank, is_zero, all_digits}
use Rattle.text.specs.ByteNumbers.{AreBytes, bytes_onto, bytes_number}
use Rattle.text.proofs.EachByteLaws.{bytes_agree}

-- ---- the same done to each byte

-- one byte throughout
abbrev pub throughout : ℕ → List ℕ → List ℕ
throughout m s = replicate (length s) m

masked : (m x y : ℕ) (s : List ℕ) → m < 256 → AreBytes s
    → bit_and (bytes_onto x s) (bytes_onto y (throughout m s)) ≡ bytes_onto (bit_and x y) (map (λ (b : ℕ). bit_and b m) s)
masked m x y [] h a = refl
masked m x y (b ∷ s) h a =
    masked m (x * 256 + b) (y * 256 + m) s h a.1
    ∙ ap (λ (n : ℕ). bytes_onto n (map (λ (b : ℕ). bit_and b m) s)) (and_block 8 x y b m a.0 h)

summed : (m x y : ℕ) (s : List ℕ) → bytes_onto x s + bytes_onto y (throughout m s) ≡ bytes_onto (x + y) (map (λ (b : ℕ). b + m) s)
summed m x y [] = refl
summed m x y (b ∷ s) =
    let e : x * 256 + b + (y * 256 + m) ≡ (x + y) * 256 + (b + m) = omega arith in
    summed m (x * 256 + b) (y * 256 + m) s ∙ ap (λ (n : ℕ). bytes_onto n (map (λ (b : ℕ). b + m) s)) e

-- one byte more on both sides
more_level : (x y b m : ℕ) → b < 256 → m < 256 → eqb (x * 256 + b) (y * 256 + m) ≡ (eqb x y && eqb b m)
more_level x y b m h k = go (eqb x y) (eqb b m) refl refl
  where
    go : (p q : Bool) → eqb x y ≡ p → eqb b m ≡ q → eqb (x * 256 + b) (y * 256 + m) ≡ (p && q)
    go true true d e =
        let u : x ≡ y = eqb-true x y d in
        let v : b ≡ m = eqb-true b m e in
        eq-eqb (x * 256 + b) (y * 256 + m) (omega (arith, u, v))
    go true false d e =
        let u : x ≡ y = eqb-true x y d in
        ne_eqb (x * 256 + b) (y * 256 + m) (λ z. eqb-false b m e (omega (arith, u, z)))
    go false q d e = ne_eqb (x * 256 + b) (y * 256 + m) (λ z. eqb-false x y d (omega (arith, h, k, z)))

compared : (m x y : ℕ) (s : List ℕ) → m < 256 → AreBytes s → eqb (bytes_onto x s) (bytes_onto y (throughout m s)) ≡ (eqb x y && every (is_byte m) s)
compared m x y [] h a = sym (and-true (eqb x y))
compared m x y (b ∷ s) h a =
    compared m (x * 256 + b) (y * 256 + m) s h a.1
    ∙ rw (more_level x y b m a.0 h) (and_assoc (eqb x y) (eqb b m) (every (is_byte m) s))

-- ---- digits

-- what the test makes of one byte
abbrev high_half : ℕ → ℕ
high_half b = bit_and b 0xF0

abbrev low_half : ℕ → ℕ
low_half b = bit_and b 0x0F

abbrev is_digit_by_halves : ℕ → Bool
is_digit_by_halves b = is_byte 0xF0 (high_half b) && is_byte 0 (high_half (low_half b + 6))

-- by computing it for each byte
halves_digit : (b : ℕ) → b < 256 → is_digit_by_halves b ≡ is_digit b
unfolding is_digit
halves_digit b h = bytes_agree is_digit_by_halves is_digit refl b h

crossed : (p q r t : Bool) → ((p && q) && (r && t)) ≡ ((p && r) && (q && t))
crossed true true r t = refl
crossed true false true t = refl
crossed true false false t = refl
crossed false q r t = refl

-- of all bytes at once
each_by_halves : (s : List ℕ) → AreBytes s
    → (every (is_byte 0xF0) (map high_half s) && every (is_byte 0) (map high_half (map (λ (b : ℕ). b + 6) (map low_half s)))) ≡ every is_digit s
each_by_halves [] a = refl
each_by_halves (b ∷ s) a =
    crossed (is_byte 0xF0 (high_half b)) (every (is_byte 0xF0) (map high_half s)) (is_byte 0 (high_half (low_half b + 6)))
    (every (is_byte 0) (map high_half (map (λ (b : ℕ). b + 6) (map low_half s))))
    ∙ rw (halves_digit b a.0, each_by_halves s a.1)

-- what is done to bytes leaves bytes
halves_bytes : (m : ℕ) (s : List ℕ) → m < 256 → AreBytes (map (λ (b : ℕ). bit_and b m) s)
halves_bytes m [] h = tt
halves_bytes m (b ∷ s) h = (omega (arith, and_le_r b m, h), halves_bytes m s h)

sums_bytes : (s : List ℕ) → AreBytes (map (λ (b : ℕ). b + 6) (map low_half s))
sums_bytes [] = tt
sums_bytes (b ∷ s) = (omega (arith, and_le_r b 0x0F), sums_bytes s)

-- eight bytes: the constants are one byte throughout
module _ (s : List ℕ) (l : length s ≡ 8) where
  -- a mask over all
  mask_eight : (m : ℕ) → m < 256 → AreBytes s → bit_and (bytes_onto 0 s) (bytes_onto 0 (replicate 8 m)) ≡ bytes_onto 0 (map (λ (b : ℕ). bit_and b m) s)
  mask_eight m h a = ap (λ (n : ℕ). bit_and (bytes_onto 0 s) (bytes_onto 0 (replicate n m))) (sym l) ∙ masked m 0 0 s h a

  add_eight : (m : ℕ) → bytes_onto 0 s + bytes_onto 0 (replicate 8 m) ≡ bytes_onto 0 (map (λ (b : ℕ). b + m) s)
  add_eight m = ap (λ (n : ℕ). bytes_onto 0 s + bytes_onto 0 (replicate n m)) (sym l) ∙ summed m 0 0 s

  compare_eight : (m : ℕ) → m < 256 → AreBytes s → eqb (bytes_onto 0 s) (bytes_onto 0 (replicate 8 m)) ≡ every (is_byte m) s
  compare_eight m h a = ap (λ (n : ℕ). eqb (bytes_onto 0 s) (bytes_onto 0 (replicate n m))) (sym l) ∙ compared m 0 0 s h a

pub eight_zeros : (s : List ℕ) → length s ≡ 8 → AreBytes s → eqb (bytes_number s) 0xF0F0F0F0F0F0F0F0 ≡ is_zero s
unfolding bytes_number is_zero
eight_zeros s l a = compare_eight s l 0xF0 (lit< tt) a

pub eight_spaces : (s : List ℕ) → length s ≡ 8 → AreBytes s → eqb (bytes_number s) 0x4040404040404040 ≡ is_blank s
unfolding bytes_number is_blank
eight_spaces s l a = compare_eight s l 0x40 (lit< tt) a

pub eight_digits : (s : List ℕ) → length s ≡ 8 → AreBytes s
    → (eqb (bit_and (bytes_number s) 0xF0F0F0F0F0F0F0F0) 0xF0F0F0F0F0F0F0F0
    && eqb (bit_and (bit_and (bytes_number s) 0x0F0F0F0F0F0F0F0F + 0x0606060606060606) 0xF0F0F0F0F0F0F0F0) 0)
    ≡ all_digits s
unfolding bytes_number all_digits
eight_digits s l a =
    let high = map high_half s in
    let low = map low_half s in
    let sum = map (λ (b : ℕ). b + 6) low in
    let lh : length high ≡ 8 = length-map s high_half ∙ l in
    let ll : length low ≡ 8 = length-map s low_half ∙ l in
    let ls : length sum ≡ 8 = length-map low (λ (b : ℕ). b + 6) ∙ ll in
    let lc : length (map high_half sum) ≡ 8 = length-map sum high_half ∙ ls in
    rw (
      mask_eight s l 0xF0 (lit< tt) a,
      mask_eight s l 0x0F (lit< tt) a,
      add_eight low ll 6,
      mask_eight sum ls 0xF0 (lit< tt) (sums_bytes s),
      compare_eight high lh 0xF0 (lit< tt) (halves_bytes 0xF0 s (lit< tt)),
      compare_eight (map high_half sum) lc 0 (lit< tt) (halves_bytes 0xF0 sum (lit< tt)),
    ) (each_by_halves s a)
