-- One number more is written. Assumes nothing.
use Prim.Native.Nat.{ℕ, ◌+◌, ◌<◌}
use mathlib.Core.Path.{◌≡◌, refl, sym, ap, ◌∙◌}
use mathlib.Core.Bool.{Bool, true, false}
use mathlib.Core.List.{List}
use native.Mathlib.Omega.{arith}
use lib.Dec.{ltb}
use lib.ListN.{length, drop, get_or, set}
use lib.Seq.{get_or-set_same, get_or-set_other, drop-set-lt, drop-drop}
use borrow.Author.Tests.{ltb-true, ltb-false}

-- one number written, the rest kept
pub kept_next : (i : ℕ) (s t : List ℕ) (x : ℕ) → drop i s ≡ drop i t → drop (i + 1) (set s i x) ≡ drop (i + 1) t
kept_next i s t x e = drop-set-lt (i + 1) s i x (omega arith) ∙ sym (drop-drop 1 i s) ∙ ap (drop 1) e ∙ drop-drop 1 i t

-- what holds of the numbers before i and of that at i
pub each_next : (P : ℕ → ℕ → Type 0) (i x : ℕ) (s : List ℕ) → i < length s → ((q : ℕ) → q < i → P q (get_or s q 0)) → P i x
    → (q : ℕ) → q < i + 1 → P q (get_or (set s i x) q 0)
each_next P i x s l h k q m = go (ltb q i) refl
  where
    go : (b : Bool) → ltb q i ≡ b → P q (get_or (set s i x) q 0)
    go true e =
        let n = ltb-true q i e in
        rw (get_or-set_other s i q x 0 (λ z. omega arith)) (h q n)
    go false e =
        let n : q ≡ i = omega (arith, ltb-false q i e) in
        rw (n, get_or-set_same s i x 0 l) k
