-- For the contracts of inner functions; no rule of the papers stands here.
-- What a walk over rows and keys leaves in the answer list. Assumes nothing.
use Rattle.std.specs.Prelude.{ℕ, ◌≡◌, List, length, take, drop}
use Rattle.text.specs.Blocks.{blocks}
use Rattle.casemaster.specs.Master.{rows_of}
use Rattle.lookup.specs.Many.{walk}

-- k answers and the number of comparisons are the walk's; the places behind them are kept
pub record HasWalked (m : List ℕ) (n : ℕ) (keys : List ℕ) (k : ℕ) (before after : List ℕ) (comparisons : ℕ) : Type 0 where
  pub walked : record { answers = take k after; comparisons = comparisons } ≡ walk (blocks 12 k keys) 0 (rows_of n m)
  pub rest_kept : drop k after ≡ drop k before
  pub same_length : length after ≡ length before
