-- Numbers no two of which are the same, put in rising order. Assumes nothing.
use Prim.Native.Nat.{ℕ, ◌<◌}
use mathlib.Core.Path.{◌≡◌, refl, sym}
use mathlib.Core.List.{List}
use lib.ListN.{length, get_or}
use Rattle.sorting.specs.Sorting.{sorted}
use Rattle.sorting.proofs.SortingLaws.{Different, length-sorted, sorted_has, has_sorted, sorted_strict}

-- the same numbers, in strictly rising order
pub record Arranged (before after : List ℕ) : Type 0 where
  pub count : length after ≡ length before
  pub from : (q : ℕ) → q < length after → (i : ℕ) × (i < length before) × (get_or after q 0 ≡ get_or before i 0)
  pub to : (i : ℕ) → i < length before → (q : ℕ) × (q < length after) × (get_or after q 0 ≡ get_or before i 0)
  pub strict : (q p : ℕ) → q < p → p < length after → get_or after q 0 < get_or after p 0

-- numbers no two of which are the same, once sorted
pub sorted_arranged : (xs : List ℕ) → Different xs → Arranged xs (sorted xs)
sorted_arranged xs h =
    record {
      count = length-sorted xs;
      from = λ q l. let t = has_sorted xs (get_or (sorted xs) q 0) (q, l, refl) in (t.0, t.1, sym t.2);
      to = λ i l. sorted_has xs (get_or xs i 0) (i, l, refl);
      strict = λ q p l m. sorted_strict xs h q p l (rw (length-sorted xs) at m);
    }
