-- Laws of a sum over blocks, whatever is summed. Assumes nothing.
use mathlib.Core.Path.{◌≡◌}
use mathlib.Core.List.{List, [], ◌∷◌}
use Prim.Native.Nat.{ℕ, ◌+◌, ◌*◌, ◌≤◌, ◌<◌}
use native.Mathlib.Nat.{suc-mul}
use native.Mathlib.Omega.{arith}
use lib.ListN.{length, take, drop, drop_of_length-le}
use Rattle.text.specs.Blocks.{blocks}
use Rattle.text.proofs.BlocksLaws.{length-blocks, blocks-next}

-- `sum` adds up `f` over a list of blocks
pub record IsSum (f : List ℕ → ℕ) (sum : List (List ℕ) → ℕ) : Type 0 where
  pub none : sum [] ≡ 0
  pub more : (b : List ℕ) (bs : List (List ℕ)) → sum (b ∷ bs) ≡ f b + sum bs

module _ {f : List ℕ → ℕ} {sum : List (List ℕ) → ℕ} (s : IsSum f sum) where
  -- a sum of terms that are at most m
  pub sum_bound : (m : ℕ) → ((b : List ℕ) → f b ≤ m) → (bs : List (List ℕ)) → sum bs ≤ length bs * m
  sum_bound m h [] = omega (arith, s.none)
  sum_bound m h (b ∷ bs) = omega (arith, s.more b bs, h b, sum_bound m h bs, suc-mul (length bs) m)

  module _ (w n : ℕ) (xs : List ℕ) where
    -- what was added up, and the blocks from i on, make the whole: with the block at i, and the blocks behind it
    pub sum-next : (i before after : ℕ) → i < n → after ≡ before + f (take w (drop (i * w) xs))
        → before + sum (drop i (blocks w n xs)) ≡ sum (blocks w n xs)
        → after + sum (drop (i + 1) (blocks w n xs)) ≡ sum (blocks w n xs)
    sum-next i before after l e h =
        let p : sum (drop i (blocks w n xs)) ≡ f (take w (drop (i * w) xs)) + sum (drop (i + 1) (blocks w n xs)) =
        rw (blocks-next w n xs i l) (s.more _ _) in
        omega arith

    pub sum_end : (i whole : ℕ) → n ≤ i → whole + sum (drop i (blocks w n xs)) ≡ sum (blocks w n xs) → whole ≡ sum (blocks w n xs)
    sum_end i whole l h =
        let z : sum (drop i (blocks w n xs)) ≡ 0 =
        rw (drop_of_length-le (blocks w n xs) {i = i} (rw (length-blocks w n xs) l)) s.none in
        omega arith

    -- what was added up is at most the whole
    pub sum_below : (m i part : ℕ) → ((b : List ℕ) → f b ≤ m) → part + sum (drop i (blocks w n xs)) ≡ sum (blocks w n xs) → part ≤ n * m
    sum_below m i part h e = let b = rw (length-blocks w n xs) at (sum_bound m h (blocks w n xs)) in omega arith
