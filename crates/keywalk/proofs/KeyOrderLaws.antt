-- Laws of a batch's details in key order: which details of a key stand before and behind a place of the order. Assumes nothing.
use Prim.Native.Nat.{ℕ, suc, ◌+◌, ◌-◌, ◌^◌, ◌≤◌, ◌<◌}
use mathlib.Core.Path.{◌≡◌, refl, sym, ap, ◌∙◌}
use mathlib.Core.Logic.{◌⊎◌, inl, inr}
use mathlib.Core.Bool.{Bool, true, false, false≢true}
use mathlib.Core.List.{List, [], ◌∷◌, ◌++◌}
use native.Mathlib.Nat.{eq-or-lt_of_le}
use native.Mathlib.Omega.{arith}
use borrow.Author.Tests.{ltb-true, ltb-false}
use lib.Dec.{ltb}
use lib.ListN.{length, take, get_or}
use lib.Seq.{take-length}
use Rattle.text.specs.Fields.{same_bytes}
use Rattle.text.proofs.SameLaws.{eq_same, same_eq}
use Rattle.keyorder.specs.Order.{detail_at, rank_of, rank_at, Before, InKeyOrder}
use Rattle.turns.proofs.IndexLaws.{key_at, under_before, under_up_to}
use Rattle.turns.specs.Under.{details_under}

-- ---- the order

module _ (state : List ℕ) (details : List (List ℕ)) (order : List ℕ) (o : InKeyOrder state details order) where
  abbrev at : ℕ → ℕ
  at q = get_or order q 0

  abbrev rank : ℕ → ℕ
  rank q = rank_at state details (at q)

  -- the same key has the same rank
  key_rank : (i j : ℕ) → key_at details i ≡ key_at details j → rank_at state details i ≡ rank_at state details j
  key_rank i j e = ap (rank_of state) e

  -- ranks don't fall
  rank_up : (q p : ℕ) → q ≤ p → p < length order → rank q ≤ rank p
  rank_up q p l h = go (eq-or-lt_of_le l)
    where
      rises : Before state details (at q) (at p) → rank q ≤ rank p
      rises (inl b) = omega arith
      rises (inr b) = let e = b.0 in omega arith

      go : (q ≡ p) ⊎ (q < p) → rank q ≤ rank p
      go (inl e) = let f : rank q ≡ rank p = ap rank e in omega arith
      go (inr m) = rises (o.in_order q p m h)

  -- of two details of a rank the one that comes first in the batch comes first in the order
  ahead : (q p : ℕ) → q < length order → rank q ≡ rank p → at q < at p → q < p
  ahead q p h e l = go (ltb q p) refl
    where
      behind : Before state details (at p) (at q) → ⊥
      behind (inl b) = omega arith
      behind (inr b) = let n = b.1 in omega arith

      split : (p ≡ q) ⊎ (p < q) → ⊥
      split (inl f) = let g : at p ≡ at q = ap at f in omega arith
      split (inr m) = behind (o.in_order p q m h)

      go : (t : Bool) → ltb q p ≡ t → q < p
      go true t = ltb-true q p t
      go false t = absurd (split (eq-or-lt_of_le (ltb-false q p t)))

  -- so of two details of a key
  key_ahead : (q p : ℕ) → q < length order → key_at details (at q) ≡ key_at details (at p) → at q < at p → q < p
  key_ahead q p h e l = ahead q p h (key_rank (at q) (at p) e) l

  -- between two neighbours of a key no other detail of it stands
  pub under_next : (q : ℕ) → suc q < length order → same_bytes (key_at details (get_or order q 0)) (key_at details (get_or order (suc q) 0)) ≡ true
      → details_under (key_at details (get_or order q 0)) (take (get_or order (suc q) 0) details)
      ≡ details_under (key_at details (get_or order q 0)) (take (get_or order q 0) details) ++ (detail_at details (get_or order q 0) ∷ [])
  under_next q h s =
      let e : key_at details (at q) ≡ key_at details (at (suc q)) = same_eq (key_at details (at q)) (key_at details (at (suc q))) s in
      let l : at q < at (suc q) = rises e (o.in_order q (suc q) (omega arith) h) in
      let i : at (suc q) < length details = o.inside (suc q) h in
      let n : suc (at q) + (at (suc q) - suc (at q)) ≡ at (suc q) = omega arith in
      sym (ap (λ (k : ℕ). details_under (key_at details (at q)) (take k details)) n)
      ∙ under_up_to (key_at details (at q)) details (at q) (at (suc q) - suc (at q)) (omega arith) refl
      (λ j a b k. none_between j a (omega arith) k e)
    where
      rises : key_at details (at q) ≡ key_at details (at (suc q)) → Before state details (at q) (at (suc q)) → at q < at (suc q)
      rises e (inl b) = absurd (let f : rank q ≡ rank (suc q) = key_rank (at q) (at (suc q)) e in omega arith)
      rises e (inr b) = b.1

      none_between : (j : ℕ) → at q < j → j < at (suc q) → key_at details j ≡ key_at details (at q)
          → key_at details (at q) ≡ key_at details (at (suc q)) → ⊥
      none_between j a b k e =
          let i : at (suc q) < length details = o.inside (suc q) h in
          let c = o.all j (omega arith) in
          let f : at c.0 ≡ j = c.2 in
          let m : key_at details (at c.0) ≡ key_at details (at q) = ap (key_at details) f ∙ k in
          let low : q < c.0 = key_ahead q c.0 (omega arith) (sym m) (omega arith) in
          let high : c.0 < suc q = key_ahead c.0 (suc q) c.1 (m ∙ e) (omega arith) in
          omega arith

  module _ (same : (i j : ℕ) → rank_at state details i < 2 ^ 31 → rank_at state details i ≡ rank_at state details j → key_at details i ≡ key_at details j)
    where
      -- two places of a rank, and those between them, have details of one key
      key_between : (q p r : ℕ) → q ≤ p → p ≤ r → r < length order → rank q < 2 ^ 31 → rank q ≡ rank r
          → key_at details (at q) ≡ key_at details (at p)
      key_between q p r l m h k e =
          same (at q) (at p) k (let a = rank_up q p l (omega arith) in let b = rank_up p r m h in omega arith)

      -- no detail of the key stands before the first of its places
      pub under_first : (q : ℕ) → q < length order → rank_at state details (get_or order q 0) < 2 ^ 31
          → (q ≡ 0) ⊎ ((p : ℕ) × (q ≡ suc p) × (same_bytes (key_at details (get_or order p 0)) (key_at details (get_or order q 0)) ≡ false))
          → details_under (key_at details (get_or order q 0)) (take (get_or order q 0) details) ≡ []
      under_first q h k c =
          let i : at q < length details = o.inside q h in
          under_before (key_at details (at q)) details (at q) (omega arith) (λ j l e. none_before j l e c)
        where
          none_before : (j : ℕ) → j < at q → key_at details j ≡ key_at details (at q)
              → (q ≡ 0) ⊎ ((p : ℕ) × (q ≡ suc p) × (same_bytes (key_at details (at p)) (key_at details (at q)) ≡ false)) → ⊥
          none_before j l e c =
              let i : at q < length details = o.inside q h in
              let a = o.all j (omega arith) in
              let f : at a.0 ≡ j = a.2 in
              let m : key_at details (at a.0) ≡ key_at details (at q) = ap (key_at details) f ∙ e in
              go a.0 (key_ahead a.0 q a.1 m (omega arith)) m c
            where
              go : (r : ℕ) → r < q → key_at details (at r) ≡ key_at details (at q)
                  → (q ≡ 0) ⊎ ((p : ℕ) × (q ≡ suc p) × (same_bytes (key_at details (at p)) (key_at details (at q)) ≡ false)) → ⊥
              go r b m (inl z) = omega arith
              go r b m (inr s) =
                  let p : ℕ = s.0 in
                  let z : q ≡ suc p = s.1 in
                  let g : rank r ≡ rank q = key_rank (at r) (at q) m in
                  let n : key_at details (at p) ≡ key_at details (at q) = sym (key_between r p q (omega arith) (omega arith) h (omega arith) g) ∙ m in
                  false≢true (sym s.2 ∙ eq_same (key_at details (at p)) (key_at details (at q)) n)

      -- and none behind the last
      pub under_last : (q : ℕ) → q < length order → rank_at state details (get_or order q 0) < 2 ^ 31
          → (suc q ≡ length order) ⊎ (same_bytes (key_at details (get_or order q 0)) (key_at details (get_or order (suc q) 0)) ≡ false)
          → details_under (key_at details (get_or order q 0)) details
          ≡ details_under (key_at details (get_or order q 0)) (take (get_or order q 0) details) ++ (detail_at details (get_or order q 0) ∷ [])
      under_last q h k c =
          let i : at q < length details = o.inside q h in
          let n : suc (at q) + (length details - suc (at q)) ≡ length details = omega arith in
          ap (details_under (key_at details (at q))) (sym (take-length details) ∙ ap (λ (m : ℕ). take m details) (sym n))
          ∙ under_up_to (key_at details (at q)) details (at q) (length details - suc (at q)) (omega arith) refl
          (λ j a b e. none_behind j a (omega arith) e)
        where
          go : (r : ℕ) → q < r → r < length order → key_at details (at q) ≡ key_at details (at r)
              → (suc q ≡ length order) ⊎ (same_bytes (key_at details (at q)) (key_at details (at (suc q))) ≡ false) → ⊥
          go r a b m (inl z) = omega arith
          go r a b m (inr s) =
              let g : rank q ≡ rank r = key_rank (at q) (at r) m in
              let n : key_at details (at q) ≡ key_at details (at (suc q)) = key_between q (suc q) r (omega arith) (omega arith) b k g in
              false≢true (sym s ∙ eq_same (key_at details (at q)) (key_at details (at (suc q))) n)

          none_behind : (j : ℕ) → at q < j → j < length details → key_at details j ≡ key_at details (at q) → ⊥
          none_behind j l b e =
              let a = o.all j b in
              let f : at a.0 ≡ j = a.2 in
              let m : key_at details (at q) ≡ key_at details (at a.0) = sym (ap (key_at details) f ∙ e) in
              go a.0 (key_ahead q a.0 h m (omega arith)) a.1 m c
