-- Laws of a buffer that blocks are appended to, over any width. Assumes nothing.
use Prim.Native.Nat.{ℕ, ◌+◌, ◌*◌, ◌≤◌}
use mathlib.Core.Path.{◌≡◌, refl, sym, ap, ◌∙◌}
use mathlib.Core.List.{List, [], ◌∷◌, ◌++◌, append-nil}
use native.Mathlib.Nat.{one-mul, add-mul, mul-le-mul_right}
use native.Mathlib.Omega.{arith}
use lib.ListN.{length, length-append}
use Rattle.text.specs.Blocks.{blocks, joined, over, spliced, Holds}
use Rattle.text.proofs.SplicedLaws.{length-spliced}
use Rattle.text.proofs.BlocksLaws.{length-blocks, holds_append, holds_over, kept_further}
use Rattle.text.proofs.WidthLaws.{joined-append}

joined_one : (r : List ℕ) → joined (r ∷ []) ≡ r
unfolding joined
joined_one r = append-nil r

module _ (w : ℕ) where
  -- as many blocks as are given
  pub holds_count : {m m' : List ℕ} {n : ℕ} {given : List (List ℕ)} → Holds w m m' n given → n ≡ length given
  holds_count {m} {m'} {n} h = sym (length-blocks w n m') ∙ ap length h.blocks_are

  -- nothing written
  pub holds_kept : (m : List ℕ) (n : ℕ) → Holds w m m n (blocks w n m)
  holds_kept m n = record { blocks_are = refl; rest_kept = refl }

  -- blocks written behind those that were written before
  pub holds_then : {m m₁ m₂ : List ℕ} {n k : ℕ} {a : List (List ℕ)} (b : List (List ℕ))
      → Holds w m m₁ n a → Holds w m₁ m₂ k (blocks w n m₁ ++ b) → Holds w m m₂ k (a ++ b)
  holds_then {m} {m₁} {m₂} {n} {k} {a} b h g =
      let l : n ≤ k = omega (arith, holds_count g, length-append (blocks w n m₁) b, length-blocks w n m₁) in
      record {
        blocks_are = g.blocks_are ∙ ap (λ (z : List (List ℕ)). z ++ b) h.blocks_are;
        rest_kept = g.rest_kept ∙ kept_further m₁ m (n * w) (k * w) (mul-le-mul_right w l) h.rest_kept;
      }

  -- a last block behind those given: the whole buffer
  pub holds_last : {m m₁ : List ℕ} {n : ℕ} {given : List (List ℕ)} (r : List ℕ) → Holds w m m₁ n given
      → length r ≡ w → n * w + w ≤ length m₁ → spliced m₁ (n * w) r ≡ over (joined given ++ r) m
  holds_last {m} {m₁} {n} {given} r h e l =
      let m₂ = spliced m₁ (n * w) r in
      let k : (n + 1) * w ≡ n * w + w = omega (arith, add-mul n 1 w, one-mul w) in
      let f : length m₂ ≡ length m₁ = length-spliced m₁ (n * w) r (omega arith) in
      holds_over w m m₂ (n + 1) (given ++ r ∷ []) (holds_then (r ∷ []) h (holds_append w n m₁ r e l)) (omega arith)
      ∙ ap (λ (z : List ℕ). over z m) (joined-append given (r ∷ []) ∙ ap (λ (z : List ℕ). joined given ++ z) (joined_one r))
