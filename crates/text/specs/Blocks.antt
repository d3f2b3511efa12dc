-- Blocks of one width that stand one behind the other: a master's rows, a batch's records, a list's codes. Assumes nothing.
use Rattle.std.specs.Prelude.{ℕ, zero, suc, ◌+◌, ◌*◌, ◌≡◌, List, [], ◌∷◌, ◌++◌, length, take, drop}

-- the first n blocks of width bytes each
unfoldable pub blocks : ℕ → ℕ → List ℕ → List (List ℕ)
blocks width zero bytes = []
blocks width (suc n) bytes = take width bytes ∷ blocks width n (drop width bytes)

-- blocks written one behind the other
unfoldable pub joined : List (List ℕ) → List ℕ
joined [] = []
joined (b ∷ bs) = b ++ joined bs

-- new bytes at the front, and what stood behind them kept
unfoldable pub over : List ℕ → List ℕ → List ℕ
over new old = new ++ drop (length new) old

-- s over the bytes from index at on, the rest kept
unfoldable pub spliced : List ℕ → ℕ → List ℕ → List ℕ
spliced bytes at s = take at bytes ++ (s ++ drop (at + length s) bytes)

-- the buffer has become one that holds n blocks, those given, and behind them what it held there before
pub record Holds (width : ℕ) (before after : List ℕ) (n : ℕ) (given : List (List ℕ)) : Type 0 where
  pub blocks_are : blocks width n after ≡ given
  pub rest_kept : drop (n * width) after ≡ drop (n * width) before
