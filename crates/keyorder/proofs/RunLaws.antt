-- Where the own ranks end, and the run of one rank with its flags together. Assumes nothing.
use Prim.Native.Nat.{ℕ, zero, suc, ◌+◌, ◌-◌, ◌≤◌, ◌<◌}
use mathlib.Core.Path.{◌≡◌, refl, sym, ap, ◌∙◌}
use mathlib.Core.Bool.{Bool, true, false, ◌||◌}
use mathlib.Core.List.{List}
use mathlib.Core.Logic.{◌⊎◌}
use native.Mathlib.Omega.{arith}
use native.Mathlib.Nat.{not-suc-le-zero}
use borrow.Author.Tests.{ltb-true, ltb-false}
use lib.Dec.{ltb}
use lib.ListN.{length, take, get_or}
use lib.Seq.{length-take-le, get_or-take}
use Rattle.std.specs.List.Sorted.{IsNonDecreasingBy, IsPartitionedBy, IsPartitionPoint}
use Rattle.std.proofs.lemmas.List.Sorted.{IsNonDecreasingBy-from_default, IsPartitionedBy-ltb}
use Rattle.text.proofs.BoolLaws.{or_left, or_right}
use Rattle.keyorder.specs.Order.{no_rank}
use Rattle.keyorder.specs.Tagged.{rank_part, flag_gives, makes_from}
use Rattle.keyorder.specs.Runs.{RanksRise, IsOwnEnd, any_from, RunFound}

-- ---- the own ranks

-- a rank of the state's own
abbrev pub is_own : ℕ → Bool
is_own x = ltb (rank_part x) no_rank

module _ (d : ℕ) (s : List ℕ) (l : d ≤ length s) (r : RanksRise d s) where
  -- the ranks of the first d numbers do not fall
  ranks_level : IsNonDecreasingBy rank_part (take d s)
  ranks_level = IsNonDecreasingBy-from_default rank_part (take d s) 0 level
    where
      level : (i j : ℕ) → i ≤ j → j < length (take d s) → rank_part (get_or (take d s) i 0) ≤ rank_part (get_or (take d s) j 0)
      level i j h k = go (omega (arith, length-take-le d s l)) (ltb i j) refl
        where
          go : j < d → (t : Bool) → ltb i j ≡ t → rank_part (get_or (take d s) i 0) ≤ rank_part (get_or (take d s) j 0)
          go w true e =
              rw (get_or-take d s i 0 (omega (arith, ltb-true i j e)), get_or-take d s j 0 w) (r i j (ltb-true i j e) w)
          go w false e = let m : i ≡ j = omega (arith, ltb-false i j e) in rw m (omega arith)

  pub own_first : IsPartitionedBy is_own (take d s)
  own_first = IsPartitionedBy-ltb rank_part (take d s) no_rank ranks_level

  -- where the own ranks end
  pub own_point : (q : ℕ) → q ≤ length (take d s) → IsPartitionPoint (λ x. is_own x ≡ true) (λ x. is_own x ≡ false) (take d s) q → IsOwnEnd d s q
  own_point q h p =
      let w : length (take d s) ≡ d = length-take-le d s l in
      record {
        within = omega arith;
        low = λ k b. let e = get_or-take d s k 0 (omega arith) in ltb-true _ _ (rw e at (p.0 k 0 (omega arith) b));
        high = λ k a b. let e = get_or-take d s k 0 b in ltb-false _ _ (rw e at (p.1 k 0 a (omega arith)));
      }

-- what holds below q and at q
upto : (P : ℕ → Type 0) (q : ℕ) → ((k : ℕ) → k < q → P k) → P q → (k : ℕ) → k < q + 1 → P k
upto P q h x k l = go (ltb k q) refl
  where
    go : (b : Bool) → ltb k q ≡ b → P k
    go true e = h k (ltb-true k q e)
    go false e = let m : k ≡ q = omega (arith, ltb-false k q e) in rw m x

-- ---- a run of one rank

pub any_next : (f : ℕ → Bool) (s : List ℕ) (p e : ℕ) → p ≤ e → any_from f s p (e + 1 - p) ≡ (any_from f s p (e - p) || f (get_or s e 0))
unfolding any_from
any_next f s p e l =
    let m : e + 1 - p ≡ suc (e - p) = omega arith in
    let w : p + (e - p) ≡ e = omega arith in
    rw m (ap (λ (k : ℕ). any_from f s p (e - p) || f (get_or s k 0)) w)

pub any_nil : (f : ℕ → Bool) (s : List ℕ) (p : ℕ) → any_from f s p 0 ≡ false
unfolding any_from
any_nil f s p = refl

pub any_more : (f : ℕ → Bool) (s : List ℕ) (p n : ℕ) → any_from f s p (suc n) ≡ (any_from f s p n || f (get_or s (p + n) 0))
unfolding any_from
any_more f s p n = refl

any_first : (f : ℕ → Bool) (s : List ℕ) (p : ℕ) → any_from f s p (p + 1 - p) ≡ f (get_or s p 0)
unfolding any_from
any_first f s p =
    let z : p - p ≡ 0 = omega arith in
    any_next f s p p (omega arith) ∙ rw z

-- the numbers from p up to e have one rank, and their flags together
pub record RunTo (s : List ℕ) (p e : ℕ) (gives makes : Bool) : Type 0 where
  pub later : p < e
  pub same : (q : ℕ) → p ≤ q → q < e → rank_part (get_or s q 0) ≡ rank_part (get_or s p 0)
  pub gives_is : gives ≡ any_from flag_gives s p (e - p)
  pub makes_is : makes ≡ any_from makes_from s p (e - p)

module _ (s : List ℕ) (p : ℕ) where
  pub run_first : RunTo s p (p + 1) (flag_gives (get_or s p 0)) (makes_from (get_or s p 0))
  run_first =
      record {
        later = omega arith;
        same = λ q a b. let e : q ≡ p = omega arith in rw e;
        gives_is = sym (any_first flag_gives s p);
        makes_is = sym (any_first makes_from s p);
      }

  pub run_next : (e : ℕ) (gives makes : Bool) → RunTo s p e gives makes → rank_part (get_or s e 0) ≡ rank_part (get_or s p 0)
      → RunTo s p (e + 1) (gives || flag_gives (get_or s e 0)) (makes || makes_from (get_or s e 0))
  run_next e gives makes r x =
      record {
        later = omega (arith, r.later);
        same = λ q a b. upto (λ k. p ≤ k → rank_part (get_or s k 0) ≡ rank_part (get_or s p 0)) e (λ k l h. r.same k h l) (λ h. x) q b a;
        gives_is = ap (λ (b : Bool). b || flag_gives (get_or s e 0)) r.gives_is ∙ sym (any_next flag_gives s p e (omega (arith, r.later)));
        makes_is = ap (λ (b : Bool). b || makes_from (get_or s e 0)) r.makes_is ∙ sym (any_next makes_from s p e (omega (arith, r.later)));
      }

  pub run_found : (own e : ℕ) (gives makes : Bool) → RunTo s p e gives makes → e ≤ own
      → (e ≡ own) ⊎ (rank_part (get_or s e 0) ≡ rank_part (get_or s p 0) → ⊥)
      → RunFound s p own (record { end = e; gives = gives; makes = makes })
  run_found own e gives makes r l o =
      record {
        run = record { later = r.later; within = l; same = r.same; other = o };
        gives_is = r.gives_is;
        makes_is = r.makes_is;
      }

-- none of them passes a test where together they don't
pub any_none : (f : ℕ → Bool) (s : List ℕ) (p n : ℕ) → any_from f s p n ≡ false → (j : ℕ) → j < n → f (get_or s (p + j) 0) ≡ false
unfolding any_from
any_none f s p zero h j l = absurd (not-suc-le-zero l)
any_none f s p (suc n) h j l = go (ltb j n) refl (any_none f s p n (or_left (any_from f s p n) _ h) j)
  where
    go : (b : Bool) → ltb j n ≡ b → (j < n → f (get_or s (p + j) 0) ≡ false) → f (get_or s (p + j) 0) ≡ false
    go true e ih = ih (ltb-true j n e)
    go false e ih = let k : j ≡ n = omega (arith, ltb-false j n e) in rw k (or_right (any_from f s p n) _ h)
