-- The details of one key in the key order: they stand side by side, in batch order, and the machine's run over them. Assumes nothing.
use Prim.Native.Nat.{ℕ, zero, suc, ◌+◌, ◌-◌, ◌^◌, ◌≤◌, ◌<◌}
use mathlib.Core.Path.{◌≡◌, refl, sym, ap, ◌∙◌, subst}
use mathlib.Core.Logic.{◌⊎◌, inl, inr}
use mathlib.Core.Bool.{Bool, true, false, not}
use mathlib.Core.List.{List, [], ◌∷◌, ◌++◌}
use mathlib.Core.Option.{Option, none}
use native.Mathlib.Nat.{eq-or-lt_of_le}
use native.Mathlib.Omega.{arith}
use lib.ListN.{length, take, get_or}
use Rattle.text.specs.Options.{is_some, is_none}
use Rattle.text.specs.Fields.{same_bytes}
use Rattle.text.proofs.SameLaws.{eq_same, same_eq}
use Rattle.onecase.specs.Machine.{next}
use Rattle.keyorder.specs.Order.{detail_at, rank_at, rank_of, no_rank, InKeyOrder}
use Rattle.keyorder.specs.Tagged.{makes_from, record_in}
use Rattle.keyorder.specs.Runs.{any_from}
use Rattle.keyorder.proofs.RunLaws.{any_nil, any_more}
use Rattle.keywork.specs.Worked.{row_after}
use Rattle.keywork.proofs.WorkedLaws.{after_none, after_more}
use Rattle.turns.proofs.IndexLaws.{key_at}
use Rattle.turns.proofs.RunLaws.{run_more, held_more, held_is}
use Rattle.keywalk.proofs.KeyOrderLaws.{under_first, under_next, under_last}
use Rattle.turns.specs.Under.{details_under, run_row}
use Rattle.judging.specs.Setting.{Setting}

-- the details at n positions from p on
abbrev pub details_from : List (List ℕ) → List ℕ → ℕ → ℕ → List (List ℕ)
details_from details order p zero = []
details_from details order p (suc n) = details_from details order p n ++ (detail_at details (get_or order (p + n) 0) ∷ [])

-- position p is the first of its key
abbrev pub IsStart : List (List ℕ) → List ℕ → ℕ → Type 0
IsStart details order p =
    (p ≡ 0) ⊎ ((b : ℕ) × (p ≡ suc b) × (same_bytes (key_at details (get_or order b 0)) (key_at details (get_or order p 0)) ≡ false))

-- the positions from p up to e are those of one key
pub record Group (details : List (List ℕ)) (order : List ℕ) (own p e : ℕ) : Type 0 where
  pub later : p < e
  pub within : e ≤ own
  pub same : (q : ℕ) → p ≤ q → q < e → key_at details (get_or order q 0) ≡ key_at details (get_or order p 0)
  pub other : (e ≡ own) ⊎ (same_bytes (key_at details (get_or order p 0)) (key_at details (get_or order e 0)) ≡ false)
  pub first : IsStart details order p

module _ (state : List ℕ) (details : List (List ℕ)) (order : List ℕ) (o : InKeyOrder state details order)
    (same : (i j : ℕ) → rank_at state details i < 2 ^ 31 → rank_at state details i ≡ rank_at state details j → key_at details i ≡ key_at details j)
    (own : ℕ) (own_in : own ≤ length order)
    (low : (q : ℕ) → q < own → rank_at state details (get_or order q 0) < no_rank)
    (high : (q : ℕ) → own ≤ q → q < length order → rank_at state details (get_or order q 0) ≡ no_rank)
    (p e : ℕ) (g : Group details order own p e) where
  abbrev key : List ℕ
  key = key_at details (get_or order p 0)

  -- before the detail at a position of the group stand those at the positions before
  pub group-part : (n : ℕ) → p + n < e → details_under key (take (get_or order (p + n) 0) details) ≡ details_from details order p n
  group-part zero l =
      let z : p + 0 ≡ p = omega arith in
      subst (λ (q : ℕ). details_under key (take (get_or order q 0) details) ≡ []) (sym z)
      (under_first state details order o same p (omega (arith, g.within, g.later)) (low p (omega (arith, g.within, g.later))) g.first)
  group-part (suc n) l =
      let z : p + suc n ≡ suc (p + n) = omega arith in
      let a : key_at details (get_or order (p + n) 0) ≡ key = g.same (p + n) (omega arith) (omega arith) in
      let b : key_at details (get_or order (suc (p + n)) 0) ≡ key = g.same (suc (p + n)) (omega arith) (omega arith) in
      let s = under_next state details order o (p + n) (omega (arith, g.within)) (eq_same _ _ (a ∙ sym b)) in
      let t : details_under key (take (get_or order (suc (p + n)) 0) details)
      ≡ details_under key (take (get_or order (p + n) 0) details) ++ (detail_at details (get_or order (p + n) 0) ∷ []) = rw a at s in
      subst (λ (q : ℕ). details_under key (take (get_or order q 0) details) ≡ details_from details order p (suc n)) (sym z)
      (t ∙ ap (λ (x : List (List ℕ)). x ++ (detail_at details (get_or order (p + n) 0) ∷ [])) (group-part n (omega arith)))

  -- a key with a rank isn't that of a detail without one
  behind_own : (q : ℕ) → suc q ≡ own → own < length order → (t : Bool)
      → same_bytes (key_at details (get_or order q 0)) (key_at details (get_or order own 0)) ≡ t → t ≡ false
  behind_own q s l false e = refl
  behind_own q s l true e =
      let r : rank_at state details (get_or order q 0) ≡ rank_at state details (get_or order own 0) = ap (rank_of state) (same_eq _ _ e) in
      let a = low q (omega arith) in
      let b = high own (omega arith) l in
      absurd (omega (arith, r, a, b))

  last_of : (q : ℕ) → suc q ≡ e → (suc q ≡ length order) ⊎ (same_bytes (key_at details (get_or order q 0)) (key_at details (get_or order (suc q) 0)) ≡ false)
  last_of q s = go g.other
    where
      ended : e ≡ own → (own ≡ length order) ⊎ (own < length order)
          → (suc q ≡ length order) ⊎ (same_bytes (key_at details (get_or order q 0)) (key_at details (get_or order (suc q) 0)) ≡ false)
      ended x (inl y) = inl (s ∙ x ∙ y)
      ended x (inr y) =
          inr (subst (λ (z : ℕ). same_bytes (key_at details (get_or order q 0)) (key_at details (get_or order z 0)) ≡ false) (sym (s ∙ x))
          (behind_own q (s ∙ x) y (same_bytes (key_at details (get_or order q 0)) (key_at details (get_or order own 0))) refl))

      go : (e ≡ own) ⊎ (same_bytes key (key_at details (get_or order e 0)) ≡ false)
          → (suc q ≡ length order) ⊎ (same_bytes (key_at details (get_or order q 0)) (key_at details (get_or order (suc q) 0)) ≡ false)
      go (inl x) = ended x (eq-or-lt_of_le own_in)
      go (inr x) =
          inr (subst (λ (z : ℕ). same_bytes (key_at details (get_or order q 0)) (key_at details (get_or order z 0)) ≡ false) (sym s)
          (rw (g.same q (omega (arith, g.later)) (omega arith)) x))

  -- all details of the key are those of the group
  pub group_whole : details_under key details ≡ details_from details order p (e - p)
  group_whole =
      let n : ℕ = e - p - 1 in
      let w : e - p ≡ suc n = omega (arith, g.later) in
      let s : suc (p + n) ≡ e = omega (arith, g.later) in
      let a : key_at details (get_or order (p + n) 0) ≡ key = g.same (p + n) (omega arith) (omega arith) in
      let t = under_last state details order o same (p + n) (omega (arith, g.within)) (low (p + n) (omega (arith, g.within))) (last_of (p + n) s) in
      let u : details_under key details ≡ details_under key (take (get_or order (p + n) 0) details) ++ (detail_at details (get_or order (p + n) 0) ∷ []) = rw a at t in
      u ∙ ap (λ (x : List (List ℕ)). x ++ (detail_at details (get_or order (p + n) 0) ∷ [])) (group-part n (omega arith))
      ∙ ap (details_from details order p) (sym w)

-- ---- the machine's run

module _ (setting : Setting) where
  module _ (numbers : List ℕ) (details : List (List ℕ)) (order : List ℕ) where
    -- one of the details makes a row: the run from none ends with one
    pub makes_run : (p n : ℕ)
        → ((j : ℕ) → j < n → makes_from (get_or numbers (p + j) 0) ≡ is_some (next setting none (detail_at details (get_or order (p + j) 0))))
        → any_from makes_from numbers p n ≡ not (is_none (run_row setting none (details_from details order p n)))
    unfolding run_row
    makes_run p zero h = any_nil makes_from numbers p
    makes_run p (suc n) h =
        any_more makes_from numbers p n
        ∙ rw (
          makes_run p n (λ j l. h j (omega arith)),
          h n (omega arith),
          held_is (next setting none (detail_at details (get_or order (p + n) 0))),
          run_more setting none (details_from details order p n) (detail_at details (get_or order (p + n) 0)),
        )
        (sym (held_more setting (run_row setting none (details_from details order p n)) (detail_at details (get_or order (p + n) 0))))

    -- the row after n details is that of the run over them
    pub after_run : (batch : List ℕ) (p n : ℕ) (row : Option (List ℕ))
        → ((j : ℕ) → j < n → record_in batch numbers (p + j) ≡ detail_at details (get_or order (p + j) 0))
        → row_after setting batch numbers p n row ≡ run_row setting row (details_from details order p n)
    unfolding run_row
    after_run batch p zero row h = after_none setting batch numbers p row
    after_run batch p (suc n) row h =
        after_more setting batch numbers p row n
        ∙ rw (after_run batch p n row (λ j l. h j (omega arith)), h n (omega arith))
        (sym (run_more setting row (details_from details order p n) (detail_at details (get_or order (p + n) 0))))
