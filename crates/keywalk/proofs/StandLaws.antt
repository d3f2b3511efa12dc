-- The rows of a master from a place on, parted at a key. Assumes nothing.
use Prim.Native.Nat.{ℕ, zero, suc, ◌+◌, ◌-◌, ◌*◌, ◌≤◌, ◌<◌}
use mathlib.Core.Path.{◌≡◌, refl, sym, ap, ◌∙◌, subst}
use mathlib.Core.Logic.{◌⊎◌, inl, inr}
use mathlib.Core.Bool.{Bool, true, false, cond}
use mathlib.Core.List.{List, [], ◌∷◌, ◌++◌}
use native.Mathlib.Nat.{eq-or-lt_of_le}
use native.Mathlib.Omega.{arith}
use borrow.Author.Tests.{ltb-true, ltb-false}
use lib.Dec.{ltb}
use lib.ListN.{take, drop}
use lib.Seq.{drop-drop, take-take}
use Rattle.text.specs.Fields.{same_bytes}
use Rattle.text.specs.Blocks.{blocks}
use Rattle.casemaster.specs.Row.{row_key}
use Rattle.casemaster.specs.Master.{rows_of, row_in}
use Rattle.keywalk.specs.Walking.{is_row_of, row_of_key, rows_from}
use Rattle.keywalk.proofs.PassLaws.{AllBelow, FirstNotBelow, is_key_of, first_of, behind_key}
use Rattle.text.proofs.BlocksLaws.{blocks_split}
use Rattle.text.specs.ByteOrder.{order_of, is_less}

pub ltb_self : (n : ℕ) → ltb n n ≡ false
ltb_self n = go (ltb n n) refl
  where
    go : (t : Bool) → ltb n n ≡ t → t ≡ false
    go false e = refl
    go true e = absurd (omega (arith, ltb-true n n e))

pub ltb_lt : (a b : ℕ) → a < b → ltb a b ≡ true
ltb_lt a b l = go (ltb a b) refl
  where
    go : (t : Bool) → ltb a b ≡ t → t ≡ true
    go true e = refl
    go false e = absurd (omega (arith, ltb-false a b e))

pub ltb_ge : (a b : ℕ) → b ≤ a → ltb a b ≡ false
ltb_ge a b l = go (ltb a b) refl
  where
    go : (t : Bool) → ltb a b ≡ t → t ≡ false
    go false e = refl
    go true e = absurd (omega (arith, ltb-true a b e))

-- the key of the row at a place
pub key_in_lem : (m : List ℕ) (p : ℕ) → row_key (row_in m p) ≡ take 12 (drop (p * 200) m)
key_in_lem m p = take-take 12 200 (drop (p * 200) m) (omega arith)

-- the row at a place, and those behind it
pub from_next : (m : List ℕ) (from end : ℕ) → from < end → rows_from from end m ≡ row_in m from ∷ rows_from (from + 1) end m
unfolding blocks
from_next m from end l =
    let a : end - from ≡ suc (end - (from + 1)) = omega arith in
    let b : from * 200 + 200 ≡ (from + 1) * 200 = omega arith in
    let c : drop 200 (drop (from * 200) m) ≡ drop ((from + 1) * 200) m = drop-drop 200 (from * 200) m ∙ ap (λ (x : ℕ). drop x m) b in
    ap (λ (x : ℕ). rows_of x (drop (from * 200) m)) a
    ∙ ap (λ (x : List ℕ). row_in m from ∷ rows_of (end - (from + 1)) x) c

pub from_end : (m : List ℕ) (end : ℕ) → rows_from end end m ≡ []
unfolding blocks
from_end m end = let a : end - end ≡ 0 = omega arith in ap (λ (x : ℕ). rows_of x (drop (end * 200) m)) a

pub from_split : (m : List ℕ) (from count end : ℕ) → from + count ≤ end
    → rows_from from end m ≡ rows_of count (drop (from * 200) m) ++ rows_from (from + count) end m
from_split m from count end l =
    let a : end - from ≡ count + (end - (from + count)) = omega arith in
    let b : from * 200 + count * 200 ≡ (from + count) * 200 = omega arith in
    ap (λ (x : ℕ). rows_of x (drop (from * 200) m)) a
    ∙ blocks_split 200 count (end - (from + count)) (drop (from * 200) m)
    ∙ ap (λ (x : List ℕ). rows_of count (drop (from * 200) m) ++ rows_of (end - (from + count)) x)
    (drop-drop (count * 200) (from * 200) m ∙ ap (λ (x : ℕ). drop x m) b)

module _ (m key : List ℕ) where
  -- rows that are below one by one are below together
  pub below_pass : (count from : ℕ) → ((j : ℕ) → j < count → is_less (order_of (take 12 (drop ((from + j) * 200) m)) key) ≡ true)
      → AllBelow key (rows_of count (drop (from * 200) m))
  unfolding blocks
  below_pass zero from h = tt
  below_pass (suc count) from h =
      let z : from + 0 ≡ from = omega arith in
      let first : is_less (order_of (row_key (row_in m from)) key) ≡ true =
      rw (key_in_lem m from) (subst (λ (x : ℕ). is_less (order_of (take 12 (drop (x * 200) m)) key) ≡ true) z (h 0 (omega arith))) in
      let b : from * 200 + 200 ≡ (from + 1) * 200 = omega arith in
      let c : drop 200 (drop (from * 200) m) ≡ drop ((from + 1) * 200) m = drop-drop 200 (from * 200) m ∙ ap (λ (x : ℕ). drop x m) b in
      let rest : AllBelow key (rows_of count (drop ((from + 1) * 200) m)) =
      below_pass count (from + 1)
      (λ j l. let y : from + suc j ≡ from + 1 + j = omega arith in
      subst (λ (x : ℕ). is_less (order_of (take 12 (drop (x * 200) m)) key) ≡ true) y (h (suc j) (omega arith))) in
      (first, subst (λ (x : List ℕ). AllBelow key (rows_of count x)) (sym c) rest)

  module _ (at end : ℕ) (l : at ≤ end)
      (stop : (at ≡ end) ⊎ (is_less (order_of (take 12 (drop (at * 200) m)) key) ≡ false)) where
    pub none_back : FirstNotBelow key (rows_from at end m)
    none_back = go stop (eq-or-lt_of_le l)
      where
        ended : at ≡ end → FirstNotBelow key (rows_from at end m)
        ended e = subst (λ (x : ℕ). FirstNotBelow key (rows_from x end m)) (sym e) (rw (from_end m end) tt)

        go : (at ≡ end) ⊎ (is_less (order_of (take 12 (drop (at * 200) m)) key) ≡ false) → (at ≡ end) ⊎ (at < end)
            → FirstNotBelow key (rows_from at end m)
        go (inl e) b = ended e
        go (inr s) (inl e) = ended e
        go (inr s) (inr b) = rw (from_next m at end b) (rw (key_in_lem m at) s)

  module _ (at end : ℕ) (l : at ≤ end) where
    pub is_row : is_row_of m at end key ≡ is_key_of key (rows_from at end m)
    is_row = go (eq-or-lt_of_le l)
      where
        go : (at ≡ end) ⊎ (at < end) → is_row_of m at end key ≡ is_key_of key (rows_from at end m)
        go (inl e) = ended
          where
            ended : is_row_of m at end key ≡ is_key_of key (rows_from at end m)
            ended = rw (e, from_end m end, ltb_self end)
        go (inr b) = rw (from_next m at end b, ltb_lt at end b, key_in_lem m at)

    -- the key's row, or none, is the first of the rows from there on where it has the key
    pub first_is : row_of_key m at end key ≡ first_of key (rows_from at end m)
    first_is = go (eq-or-lt_of_le l)
      where
        go : (at ≡ end) ⊎ (at < end) → row_of_key m at end key ≡ first_of key (rows_from at end m)
        go (inl e) = rw (e, from_end m end, ltb_self end)
        go (inr b) = rw (from_next m at end b, ltb_lt at end b, key_in_lem m at)

    -- the rows behind it
    pub behind_is : rows_from (at + cond (is_row_of m at end key) 1 0) end m ≡ behind_key key (rows_from at end m)
    behind_is = go (eq-or-lt_of_le l)
      where
        ended : at ≡ end → rows_from (at + cond (is_row_of m at end key) 1 0) end m ≡ behind_key key (rows_from at end m)
        ended e =
            let z : end + 0 ≡ end = omega arith in
            rw (e, from_end m end, ltb_self end, z, from_end m end)

        by : (t : Bool) → at < end → same_bytes (take 12 (drop (at * 200) m)) key ≡ t
            → rows_from (at + cond t 1 0) end m ≡ cond t (rows_from (at + 1) end m) (row_in m at ∷ rows_from (at + 1) end m)
        by true b e = refl
        by false b e = let z : at + 0 ≡ at = omega arith in rw z (from_next m at end b)

        go : (at ≡ end) ⊎ (at < end) → rows_from (at + cond (is_row_of m at end key) 1 0) end m ≡ behind_key key (rows_from at end m)
        go (inl e) = ended e
        go (inr b) =
            rw (ltb_lt at end b, from_next m at end b, key_in_lem m at) (by (same_bytes (take 12 (drop (at * 200) m)) key) b refl)
