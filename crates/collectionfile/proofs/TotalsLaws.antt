-- Laws of the totals of the last record. Assumes nothing.
use Prim.Native.Nat.{ℕ, ◌+◌, ◌*◌, ◌≤◌, ◌<◌}
use mathlib.Core.Path.{◌≡◌, refl, sym, ◌∙◌}
use mathlib.Core.List.{List}
use mathlib.Core.Bool.{Bool, true, false, cond}
use native.Mathlib.Omega.{arith}
use borrow.Author.Tests.{eq-eqb}
use lib.Dec.{eqb, ltb, lit≤}
use lib.ListN.{length, take, drop, drop_of_length-le}
use Rattle.text.specs.Blocks.{blocks}
use Rattle.text.specs.Fields.{are_digits, all_digits, number}
use Rattle.text.proofs.BlocksLaws.{length-blocks, blocks-next}
use Rattle.std.specs.Int.{from_bool}
use Rattle.collectionfile.specs.File.{lines_above, is_total}

-- what a test adds
one_if : (b : Bool) → from_bool b ≡ cond b 1 0
one_if true = refl
one_if false = refl

pub one_at_most : (b : Bool) → from_bool b ≤ 1
one_at_most true = lit≤ tt
one_at_most false = lit≤ tt

-- the number found among the lines before i, and those from it on
module _ (of : List ℕ → ℕ) (count : ℕ) (file : List ℕ) where
  pub count_next : (i : ℕ) → i < count
      → lines_above of (drop i (blocks 240 count file)) ≡ cond (ltb 0 (of (take 240 (drop (i * 240) file)))) 1 0 + lines_above of (drop (i + 1) (blocks 240 count file))
  unfolding lines_above
  count_next i l = rw (blocks-next 240 count file i l)

  -- one more line counted
  pub count_step : (i have r x t : ℕ) → i < count → have + lines_above of (drop i (blocks 240 count file)) ≡ t
      → x ≡ of (take 240 (drop (i * 240) file)) → r ≡ from_bool (ltb 0 x)
      → have + r + lines_above of (drop (i + 1) (blocks 240 count file)) ≡ t
  count_step i have r x t l h e f =
      let g : cond (ltb 0 (of (take 240 (drop (i * 240) file)))) 1 0 ≡ r = rw (← e) (sym (f ∙ one_if (ltb 0 x))) in
      omega (arith, h, count_next i l, g)

  pub count_end : (i : ℕ) → count ≤ i → lines_above of (drop i (blocks 240 count file)) ≡ 0
  unfolding lines_above
  count_end i h = rw (drop_of_length-le (blocks 240 count file) {i = i} (rw (length-blocks 240 count file) h))

module _ (f : List ℕ) (n : ℕ) (l : length f ≡ 15) where
  pub no_total : all_digits f ≡ false → false ≡ is_total f n
  unfolding is_total are_digits
  no_total h = rw (eq-eqb (length f) 15 l, h)

  pub total_is : (x : ℕ) → all_digits f ≡ true → x ≡ number f → eqb x n ≡ is_total f n
  unfolding is_total are_digits
  total_is x h e = rw (eq-eqb (length f) 15 l, h, e)
