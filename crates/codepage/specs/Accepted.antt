-- Whether a file has a counterpart for every byte. No rule of the papers stands here: it serves the contracts of inner functions.
-- Assumes nothing.
use Rattle.std.specs.Prelude.{ℕ, List, [], ◌∷◌, Bool, true, false, ◌&&◌}
use Rattle.std.proofs.Math.Option.{Option, none, some}

abbrev pub has_counterpart : Option ℕ → Bool
has_counterpart none = false
has_counterpart (some c) = true

unfoldable pub every_has_counterpart : (ℕ → Option ℕ) → List ℕ → Bool
every_has_counterpart code [] = true
every_has_counterpart code (b ∷ bs) = has_counterpart (code b) && every_has_counterpart code bs
