-- `changes::exclusion_byte` meets its contract: reading answers the set, or a failure, which stands for 0. Assumes nothing.
use mathlib.Core.List.{[], ◌∷◌}
use mathlib.Core.Path.{◌≡◌, refl, ap, ◌∙◌}
use Prim.Native.Nat.{ℕ}
use Rattle.std.specs.Prelude as library
use Rattle.text.specs.Options.{or_zero}
use Rattle.exclusionsets.specs.Exclusions.{exclusions_of, set_read}
use Rattle.onecase.specs.Changes.{exclusion_byte}
use Rattle.onecase.proofs.changes.exclusion_byte.Goals as goal

zero_failed : (o : library.Option ℕ) → library.unwrap_or o 0 ≡ or_zero (set_read o)
zero_failed library.None = refl
zero_failed (library.Some set) = refl

pub returns : goal.returns
unfolding exclusion_byte
returns c =
    ap (λ (n : ℕ). n ∷ [])
    (c.unwrap_or.ensures
    ∙ zero_failed c.read_exclusions.result
    ∙ ap or_zero (c.read_exclusions.ensures ∙ ap exclusions_of c.field.ensures))
