-- Laws of the loops over the groups of a number: what stands and what is left make the whole. Assumes nothing.
use Prim.Native.Nat.{ℕ, ◌+◌, ◌-◌, ◌*◌, ◌/◌, ◌%◌, ◌≤◌, ◌<◌}
use mathlib.Core.Path.{◌≡◌, refl, sym, ap, ◌∙◌}
use mathlib.Core.Bool.{Bool, true, false, cond, ◌&&◌, and-false}
use mathlib.Core.List.{List, ◌∷◌}
use native.Mathlib.Nat.{add-mul, mul_assoc, mul_comm, mul-le-mul_right}
use native.Mathlib.Numerals.{add-one}
use native.Mathlib.Omega.{arith}
use lib.Dec.{ltb, eqb}
use lib.ListN.{length, drop, get_or, set, length-set, drop_of_length-le}
use lib.Seq.{drop-cons}
use borrow.Author.Tests.{lt-ltb, ne_eqb, eqb-true, eqb-false}
use Rattle.text.specs.Blocks.{spliced}
use Rattle.text.proofs.SplicedLaws.{spliced_one, spliced-cons}
use Rattle.journal.specs.Numbers.{number_bytes, Read, unread, read, with_low_group, read_number}
use Rattle.journal.specs.Reading.{reach, OutOfReach, NumberRead}
use Rattle.journal.proofs.NumberLaws.{number_low, number_high, read_low, read_high, read_none}

-- ---- writing

pub record Putting (out₀ : List ℕ) (at n : ℕ) (out : List ℕ) (left i : ℕ) : Type 0 where
  pub same_length : length out ≡ length out₀
  pub room : at + length (number_bytes n) ≤ length out₀
  pub end : i + length (number_bytes left) ≡ at + length (number_bytes n)
  pub rest : spliced out i (number_bytes left) ≡ spliced out₀ at (number_bytes n)

pub putting_none : (out : List ℕ) (at n : ℕ) → at + length (number_bytes n) ≤ length out → Putting out at n out n at
putting_none out at n h = record { same_length = refl; room = h; end = refl; rest = refl }

module _ (out₀ : List ℕ) (at n : ℕ) (out : List ℕ) (left i : ℕ) (p : Putting out₀ at n out left i) where
  pub inside_high : 128 ≤ left → i < length out
  inside_high h = omega (arith, ap length (number_high left h))

  pub putting_next : 128 ≤ left → (x : ℕ) → x ≡ 128 + left % 128 → Putting out₀ at n (set out i x) (left / 128) (i + 1)
  putting_next h x e =
      let b : number_bytes left ≡ x ∷ number_bytes (left / 128) = number_high left h ∙ rw e in
      let l = ap length b in
      record {
        same_length = length-set out i x ∙ p.same_length;
        room = p.room;
        end = omega arith;
        rest = spliced-cons out i x (number_bytes (left / 128)) (inside_high h) ∙ sym (ap (spliced out i) b) ∙ p.rest;
      }

  pub inside_low : left < 128 → i < length out
  inside_low h = omega (arith, ap length (number_low left h))

  pub put_last : left < 128 → set out i left ≡ spliced out₀ at (number_bytes n)
  put_last h = spliced_one out i left (inside_low h) ∙ sym (ap (spliced out i) (number_low left h)) ∙ p.rest

  pub put_end : left < 128 → i + 1 ≡ at + length (number_bytes n)
  put_end h = omega (arith, ap length (number_low left h))

-- ---- reading

-- groups read before others: the number that they make, and the power of 128 that the next group counts
abbrev pub lifted : ℕ → ℕ → Read → Read
lifted n scale unread = unread
lifted n scale (read high behind) = cond (eqb high 0 && ltb 1 scale) unread (read (n + high * scale) behind)

lifted_none : (r : Read) → lifted 0 1 r ≡ r
lifted_none unread = refl
lifted_none (read high behind) =
    let e : 0 + high * 1 ≡ high = omega arith in
    rw (and-false (eqb high 0), e)

lifted_before : (n scale low : ℕ) (r : Read) → 1 ≤ scale → lifted n scale (with_low_group low r) ≡ lifted (n + low * scale) (scale * 128) r
lifted_before n scale low unread h = refl
lifted_before n scale low (read high behind) h = go (eqb high 0) refl
  where
    go : (t : Bool) → eqb high 0 ≡ t
        → lifted n scale (cond t unread (read (low + 128 * high) behind))
        ≡ cond (t && ltb 1 (scale * 128)) unread (read (n + low * scale + high * (scale * 128)) behind)
    go true t = rw (lt-ltb 1 (scale * 128) (omega arith))
    go false t =
        let z = eqb-false high 0 t in
        let y : eqb (low + 128 * high) 0 ≡ false = ne_eqb (low + 128 * high) 0 (λ e. z (omega arith)) in
        let v : n + (low + 128 * high) * scale ≡ n + low * scale + high * (scale * 128) =
        omega (arith, add-mul low (128 * high) scale, mul_assoc 128 high scale, ap (λ (x : ℕ). high * x) (mul_comm scale 128), mul_assoc high 128 scale, ap (λ (x : ℕ). x * scale) (mul_comm high 128)) in
        rw (y, v)

lifted_far : (n scale : ℕ) (r : Read) → reach ≤ scale → OutOfReach (lifted n scale r)
lifted_far n scale unread h = tt
lifted_far n scale (read high behind) h = go (eqb high 0) refl
  where
    go : (t : Bool) → eqb high 0 ≡ t → OutOfReach (cond (t && ltb 1 scale) unread (read (n + high * scale) behind))
    go true t = rw (lt-ltb 1 scale (omega arith)) tt
    go false t =
        let z = eqb-false high 0 t in
        let l : 1 ≤ high = omega arith in
        omega (arith, mul-le-mul_right scale l)

pub record Reading (s : List ℕ) (at n scale i : ℕ) : Type 0 where
  pub low : at ≤ i
  pub high : i ≤ length s
  pub small : n < scale
  pub within : scale < 34359738368
  pub is : read_number (drop at s) ≡ lifted n scale (read_number (drop i s))

pub reading_none : (s : List ℕ) (at : ℕ) → at ≤ length s → Reading s at 0 1 at
reading_none s at h =
    record { low = omega arith; high = h; small = omega arith; within = omega arith; is = sym (lifted_none (read_number (drop at s))) }

module _ (s : List ℕ) (at n scale i : ℕ) (p : Reading s at n scale i) where
  -- the fifth group
  pub reading_far : reach ≤ scale → OutOfReach (read_number (drop at s))
  reading_far h = rw p.is (lifted_far n scale (read_number (drop i s)) h)

  pub reading_end : length s ≤ i → OutOfReach (read_number (drop at s))
  reading_end h = rw (p.is, drop_of_length-le s {i = i} h, read_none) tt

  module _ (b : ℕ) (e : b ≡ get_or s i 0) (l : i < length s) where
    front : drop i s ≡ b ∷ drop (i + 1) s
    front = drop-cons s i 0 l ∙ rw (e, add-one i)

    -- zero behind other groups
    pub reading_zero : (eqb b 0 && ltb 1 scale) ≡ true → OutOfReach (read_number (drop at s))
    reading_zero t = rw (p.is, front, read_low b (drop (i + 1) s) (low_of (eqb b 0) refl t), t) tt
      where
        low_of : (z : Bool) → eqb b 0 ≡ z → (z && ltb 1 scale) ≡ true → b < 128
        low_of true f t = omega (arith, eqb-true b 0 f)
        low_of false f t = let z : ◌≡◌ {A = ℕ} 0 1 = cc in absurd (omega arith)

    -- the last group
    pub reading_last : (eqb b 0 && ltb 1 scale) ≡ false → b < 128 → NumberRead at s (n + b * scale) (i + 1)
    reading_last t h =
        record {
          is = p.is ∙ rw (front, read_low b (drop (i + 1) s) h, t);
          further = omega (arith, p.low);
          inside = omega arith;
        }

    -- one more group
    pub reading_next : 128 ≤ b → b < 256 → scale < reach → Reading s at (n + (b - 128) * scale) (scale * 128) (i + 1)
    reading_next h k w =
        let m : b - 128 ≤ 127 = omega arith in
        record {
          low = omega (arith, p.low);
          high = omega arith;
          small = omega (arith, p.small, mul-le-mul_right scale m);
          within = omega arith;
          is =
              p.is
              ∙ rw (front, read_high b (drop (i + 1) s) h)
              (lifted_before n scale (b - 128) (read_number (drop (i + 1) s)) (omega (arith, p.small)));
        }

pub product_small : (b scale : ℕ) → b ≤ 255 → scale < reach → b * scale < 68719476736
product_small b scale h k = omega (arith, mul-le-mul_right scale h)
