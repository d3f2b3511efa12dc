-- For the contracts of inner functions; no rule of the papers stands here.
-- What the loop over the rows leaves. Assumes nothing.
use Rattle.std.specs.Prelude.{ℕ, ◌*◌, ◌≡◌, List, map, length, drop}
use Rattle.casemaster.specs.Master.{rows_of}
use Rattle.casemaster.specs.Row.{with_zero_cents}

-- the first n rows with zero cents, and the rest kept
pub record Zeroed (m : List ℕ) (n : ℕ) (after : List ℕ) : Type 0 where
  pub rows_are : rows_of n after ≡ map with_zero_cents (rows_of n m)
  pub rest_kept : drop (n * 200) after ≡ drop (n * 200) m
  pub same_length : length after ≡ length m
