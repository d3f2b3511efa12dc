-- Laws of the sweep: in numbers that do not fall, the last name given up to a number says whether its own is given.
-- Assumes nothing.
use Prim.Native.Nat.{ℕ, ◌+◌, ◌*◌, ◌/◌, ◌%◌, ◌^◌, ◌≤◌, ◌<◌}
use mathlib.Core.Path.{◌≡◌, refl, sym, ◌∙◌}
use mathlib.Core.Logic.{◌⊎◌, inl, inr}
use mathlib.Core.Bool.{Bool, true, false, cond}
use mathlib.Core.List.{List}
use native.Mathlib.Nat.{not-suc-le-zero}
use native.Mathlib.Omega.{arith}
use lib.Dec.{eqb, ltb}
use lib.ListN.{length, get_or, set}
use borrow.Author.Tests.{eqb-true, eqb-false, eq-eqb, ne_eqb, ltb-true, ltb-false}
use Rattle.text.specs.Fields.{at_least_one}
use Rattle.namemarks.specs.Codes.{has_giver, swept, NotFalling}
use Rattle.namemarks.proofs.AnyLaws.{any_at, any_none}
use Rattle.namemarks.proofs.MappedLaws.{Mapped, mapped_next}

-- ---- the last name given

-- one of the first k numbers gives it
pub record GivenAt (s : List ℕ) (k given : ℕ) : Type 0 where
  pub place : ℕ
  pub before : place < k
  pub gives : get_or s place 0 / 2 ^ 31 % 2 ≡ 0
  pub is : get_or s place 0 / 2 ^ 31 + 1 ≡ given

-- of the first k numbers none gives a name, or one gives this; none gives a higher
pub record LastGiven (s : List ℕ) (k given : ℕ) : Type 0 where
  pub from : (given ≡ 0) ⊎ GivenAt s k given
  pub last : (q : ℕ) → q < k → get_or s q 0 / 2 ^ 31 % 2 ≡ 0 → get_or s q 0 / 2 ^ 31 + 1 ≤ given

pub last_start : (s : List ℕ) → LastGiven s 0 0
last_start s = record { from = inl refl; last = λ q l e. absurd (not-suc-le-zero l) }

-- numbers before k, and that at k
up_to : (s : List ℕ) (k q : ℕ) → NotFalling (length s) s → k < length s → q < k + 1 → get_or s q 0 ≤ get_or s k 0
up_to s k q level l h = go (ltb q k) refl
  where
    go : (b : Bool) → ltb q k ≡ b → get_or s q 0 ≤ get_or s k 0
    go true b = level q k (ltb-true q k b) l
    go false b = let n : q ≡ k = omega (arith, ltb-false q k b) in rw n (omega arith)

module _ (s : List ℕ) (k given given' : ℕ) (level : NotFalling (length s) s) (l : k < length s) (m : LastGiven s k given)
    (e : given' ≡ cond (eqb (get_or s k 0 / 2 ^ 31 % 2) 0) (get_or s k 0 / 2 ^ 31 + 1) given) where
  pub last-next : LastGiven s (k + 1) given'
  last-next = go (eqb (get_or s k 0 / 2 ^ 31 % 2) 0) refl e
    where
      later : (given ≡ 0) ⊎ GivenAt s k given → (given ≡ 0) ⊎ GivenAt s (k + 1) given
      later (inl z) = inl z
      later (inr w) = inr record { place = w.place; before = omega (arith, w.before); gives = w.gives; is = w.is }

      go : (t : Bool) → eqb (get_or s k 0 / 2 ^ 31 % 2) 0 ≡ t → given' ≡ cond t (get_or s k 0 / 2 ^ 31 + 1) given → LastGiven s (k + 1) given'
      go true t u =
          record {
            from = inr record { place = k; before = omega arith; gives = eqb-true _ _ t; is = sym u };
            last = λ q i z. omega (arith, up_to s k q level l i);
          }
      go false t u = rw u record { from = later m.from; last = λ q i z. below q i z (ltb q k) refl }
        where
          below : (q : ℕ) → q < k + 1 → get_or s q 0 / 2 ^ 31 % 2 ≡ 0 → (b : Bool) → ltb q k ≡ b → get_or s q 0 / 2 ^ 31 + 1 ≤ given
          below q i z true b = m.last q (ltb-true q k b) z
          below q i z false b =
              let n : q ≡ k = omega (arith, ltb-false q k b) in
              absurd (eqb-false (get_or s k 0 / 2 ^ 31 % 2) 0 t (rw n at z))

  -- where a number gives the name of that at k, it is the last given
  giver_last : (q : ℕ) → q < length s → get_or s q 0 / 2 ^ 31 ≡ get_or s k 0 / 2 ^ 32 * 2 → get_or s k 0 / 2 ^ 32 * 2 + 1 ≡ given'
  giver_last q i z = same last-next.from (least (ltb q (k + 1)) refl)
    where
      least : (b : Bool) → ltb q (k + 1) ≡ b → get_or s k 0 / 2 ^ 32 * 2 + 1 ≤ given'
      least true b = omega (arith, last-next.last q (ltb-true q (k + 1) b) (omega arith))
      least false b =
          let h = ltb-false q (k + 1) b in
          let y = level k q (omega arith) i in
          let g : get_or s k 0 / 2 ^ 31 % 2 ≡ 0 = omega arith in
          omega (arith, last-next.last k (omega arith) g)

      same : (given' ≡ 0) ⊎ GivenAt s (k + 1) given' → get_or s k 0 / 2 ^ 32 * 2 + 1 ≤ given' → get_or s k 0 / 2 ^ 32 * 2 + 1 ≡ given'
      same (inl w) h = absurd (omega arith)
      same (inr w) h = omega (arith, w.gives, w.is, up_to s k w.place level l w.before)

  -- the last name given says whether the name of the number at k is given
  pub last_tells : eqb (get_or s k 0 / 2 ^ 32 * 2 + 1) given' ≡ has_giver s (get_or s k 0)
  unfolding has_giver
  last_tells = go (eqb (get_or s k 0 / 2 ^ 32 * 2 + 1) given') refl last-next.from
    where
      go : (t : Bool) → eqb (get_or s k 0 / 2 ^ 32 * 2 + 1) given' ≡ t → (given' ≡ 0) ⊎ GivenAt s (k + 1) given'
          → t ≡ at_least_one (λ y. eqb (y / 2 ^ 31) (get_or s k 0 / 2 ^ 32 * 2)) s
      go true t (inl w) = let h = eqb-true (get_or s k 0 / 2 ^ 32 * 2 + 1) given' t in absurd (omega arith)
      go true t (inr w) =
          let h = eqb-true (get_or s k 0 / 2 ^ 32 * 2 + 1) given' t in
          sym (any_at (λ y. eqb (y / 2 ^ 31) (get_or s k 0 / 2 ^ 32 * 2)) s w.place (omega (arith, w.before))
          (eq-eqb (get_or s w.place 0 / 2 ^ 31) (get_or s k 0 / 2 ^ 32 * 2) (omega (arith, w.is))))
      go false t f =
          sym (any_none (λ y. eqb (y / 2 ^ 31) (get_or s k 0 / 2 ^ 32 * 2)) s
          (λ q i. ne_eqb _ _ (λ z. eqb-false _ _ t (giver_last q i z))))

-- one number more swept
pub sweep_next : (rank : ℕ) (s now : List ℕ) (k given given' one x' : ℕ) → NotFalling (length s) s → Mapped (swept rank s) s now k → LastGiven s k given → k < length now
    → given' ≡ cond (eqb (get_or now k 0 / 2 ^ 31 % 2) 0) (get_or now k 0 / 2 ^ 31 + 1) given
    → one ≡ cond (eqb (get_or now k 0 / 2 ^ 32 * 2 + 1) given') 1 0
    → x' ≡ rank * 2 ^ 32 + get_or now k 0 % 2 ^ 31 * 2 + one
    → (Mapped (swept rank s) s (set now k x') (k + 1)) × (LastGiven s (k + 1) given')
sweep_next rank s now k given given' one x' level m g l e o r =
    let w : k < length s = omega (arith, m.wide) in
    let x : get_or now k 0 ≡ get_or s k 0 = m.kept k (omega arith) in
    let e' = rw x at e in
    let o' = rw (x, last_tells s k given given' level w g e') at o in
    let y : rank * 2 ^ 32 + get_or now k 0 % 2 ^ 31 * 2 + one ≡ swept rank s (get_or s k 0) = rw (x, o') in
    (mapped_next (swept rank s) s now k x' m l (r ∙ y), last-next s k given given' level w g e')
