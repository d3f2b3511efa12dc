-- Laws of the test for the same bytes: it is made pair by pair, and it passes exactly where the bytes are equal.
-- Assumes nothing.
use mathlib.Core.Path.{◌≡◌, refl, sym, ap, ◌∙◌}
use mathlib.Core.Bool.{Bool, true, false, ◌&&◌, and_assoc, and-true, and-false}
use mathlib.Core.List.{List, [], ◌∷◌, ◌++◌}
use Prim.Native.Nat.{ℕ, suc}
use native.Mathlib.Omega.{arith}
use borrow.Author.Tests.{eq-eqb, eqb-true}
use lib.Dec.{eqb}
use lib.ListN.{length}
use Rattle.std.specs.List.{fold, zip}
use Rattle.text.specs.Fields.{same_bytes}

-- the test of each pair of two lists of one length, gathered from the first pair on
pub same-fold : (ok : Bool) (a b : List ℕ) → length a ≡ length b
    → fold (λ (t : Bool) (p : ℕ × ℕ). t && eqb p.0 p.1) ok (zip a b) ≡ (ok && same_bytes a b)
unfolding same_bytes
same-fold ok [] [] e = sym (and-true ok)
same-fold ok [] (y ∷ b) e = absurd (omega (arith, e))
same-fold ok (x ∷ a) [] e = absurd (omega (arith, e))
same-fold ok (x ∷ a) (y ∷ b) e =
    same-fold (ok && eqb x y) a b (omega (arith, e)) ∙ and_assoc ok (eqb x y) (same_bytes a b)

pub same_lengths : (a b : List ℕ) → (length a ≡ length b → ⊥) → same_bytes a b ≡ false
unfolding same_bytes
same_lengths [] [] h = absurd (h refl)
same_lengths [] (y ∷ b) h = refl
same_lengths (x ∷ a) [] h = refl
same_lengths (x ∷ a) (y ∷ b) h = rw (same_lengths a b (λ e. h (ap suc e))) (and-false (eqb x y))

-- ---- the test and the equation

pub same_self : (a : List ℕ) → same_bytes a a ≡ true
unfolding same_bytes
same_self [] = refl
same_self (x ∷ a) = rw (eq-eqb x x refl) (same_self a)

pub eq_same : (a b : List ℕ) → a ≡ b → same_bytes a b ≡ true
eq_same a b e = rw e (same_self b)

pub same_eq : (a b : List ℕ) → same_bytes a b ≡ true → a ≡ b
unfolding same_bytes
same_eq [] [] t = refl
same_eq [] (y ∷ b) t = cc
same_eq (x ∷ a) [] t = cc
same_eq (x ∷ a) (y ∷ b) t = go (eqb x y) refl t (same_eq a b)
  where
    go : (p : Bool) → eqb x y ≡ p → (p && same_bytes a b) ≡ true → (same_bytes a b ≡ true → a ≡ b)
        → ◌≡◌ {A = List ℕ} (x ∷ a) (y ∷ b)
    go true e t r = cc (eqb-true x y e, r t)
    go false e t r = cc

-- two runs of bytes behind two others of one length
pub same_append : (a b c d : List ℕ) → length a ≡ length b → same_bytes (a ++ c) (b ++ d) ≡ (same_bytes a b && same_bytes c d)
unfolding same_bytes
same_append [] [] c d h = refl
same_append [] (y ∷ b) c d h = absurd (let x : 0 ≡ suc (length b) = h in omega arith)
same_append (x ∷ a) [] c d h = absurd (let y : suc (length a) ≡ 0 = h in omega arith)
same_append (x ∷ a) (y ∷ b) c d h =
    let l : length a ≡ length b = omega (arith, h) in
    rw (same_append a b c d l) (sym (and_assoc (eqb x y) (same_bytes a b) (same_bytes c d)))
