-- A test of all numbers below another, which is computed, holds of each; so two tests agree at every byte. Assumes nothing.
use Prim.Native.Nat.{ℕ, zero, suc, ◌<◌}
use mathlib.Core.Path.{◌≡◌, refl, sym}
use mathlib.Core.Bool.{Bool, true, false, not, ◌&&◌}
use native.Mathlib.Omega.{arith}
use lib.Dec.{eqb}
use borrow.Author.Tests.{eqb-true, eqb-false}
use Rattle.text.proofs.FieldsLaws.{and_left, and_right}

abbrev pub agree : Bool → Bool → Bool
agree true b = b
agree false b = not b

agree-eq : (a b : Bool) → agree a b ≡ true → a ≡ b
agree-eq true b t = sym t
agree-eq false true t = cc
agree-eq false false t = refl

abbrev pub every_below : (ℕ → Bool) → ℕ → Bool
every_below f zero = true
every_below f (suc n) = f n && every_below f n

below_step : (f : ℕ → Bool) (n b : ℕ) → f n ≡ true → (b < n → f b ≡ true) → b < suc n → (same : Bool) → eqb n b ≡ same → f b ≡ true
below_step f n b t behind h true e = rw (eqb-true n b e) at t
below_step f n b t behind h false e = let d = eqb-false n b e in behind (omega arith)

-- a test passed below n is passed by each below n
pub below : (f : ℕ → Bool) (n : ℕ) → every_below f n ≡ true → (b : ℕ) → b < n → f b ≡ true
below f zero t b h = absurd (omega arith)
below f (suc n) t b h =
    below_step f n b (and_left (f n) (every_below f n) t) (below f n (and_right (f n) (every_below f n) t) b) h (eqb n b) refl

pub bytes_agree : (f g : ℕ → Bool) → every_below (λ b. agree (f b) (g b)) 256 ≡ true → (b : ℕ) → b < 256 → f b ≡ g b
bytes_agree f g t b h = agree-eq (f b) (g b) (below (λ b. agree (f b) (g b)) 256 t b h)
