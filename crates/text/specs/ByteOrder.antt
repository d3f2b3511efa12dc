-- Document 01, "A case's row": byte order, in which keys rise strictly, and a block put in its place by the key at its front.
-- Assumes nothing.
use Rattle.std.specs.Prelude.{ℕ, List, [], ◌∷◌, Bool, true, false, cond, ◌&&◌, ltb, take}
use Rattle.std.specs.declared.cmp.Ordering.{Ordering}
use Rattle.std.specs.declared.cmp.Ordering.TheVariants.{Less, Equal, Greater}

-- how one byte string stands to another
pub data Order : Type 0 where
  less : Order
  equal : Order
  greater : Order

-- what each answer of the code stands for
abbrev pub order_in : Ordering → Order
order_in Less = less
order_in Equal = equal
order_in Greater = greater

-- byte order: the first byte that differs decides
unfoldable pub order_of : List ℕ → List ℕ → Order
order_of [] [] = equal
order_of [] (y ∷ ys) = less
order_of (x ∷ xs) [] = greater
order_of (x ∷ xs) (y ∷ ys) = cond (ltb x y) less (cond (ltb y x) greater (order_of xs ys))

unfoldable pub is_less : Order → Bool
is_less less = true
is_less equal = false
is_less greater = false

unfoldable pub is_equal : Order → Bool
is_equal less = false
is_equal equal = true
is_equal greater = false

-- the key is below the first of the keys, if there is one
unfoldable pub below_first : List ℕ → List (List ℕ) → Bool
below_first key [] = true
below_first key (k ∷ ks) = is_less (order_of key k)

-- keys in strictly rising byte order
unfoldable pub rising : List (List ℕ) → Bool
rising [] = true
rising (k ∷ ks) = below_first k ks && rising ks

-- one of three, by the order of two keys
abbrev pub by_order : Order → List (List ℕ) → List (List ℕ) → List (List ℕ) → List (List ℕ)
by_order less below here above = below
by_order equal below here above = here
by_order greater below here above = above

-- a block in its place among blocks, the first k bytes of each being its key: for the block with its key, or before the first block with a
-- higher key
abbrev pub with_block : ℕ → List ℕ → List (List ℕ) → List (List ℕ)
with_block k new [] = new ∷ []
with_block k new (block ∷ behind) =
    by_order (order_of (take k new) (take k block)) (new ∷ block ∷ behind) (new ∷ behind) (block ∷ with_block k new behind)
