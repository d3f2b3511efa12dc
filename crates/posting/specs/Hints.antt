-- For the contracts of inner functions; no rule of the papers stands here. Places among the rows of a master. Assumes nothing.
use Rattle.std.specs.Prelude.{ℕ, ◌+◌, ◌≤◌, List, get_or}

-- behind each place there are still `left` of n rows
abbrev pub HintsWithin : ℕ → ℕ → List ℕ → Type 0
HintsWithin n left places = (k : ℕ) → get_or places k 0 + left ≤ n
