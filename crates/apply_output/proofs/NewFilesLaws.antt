-- Laws of the files that a run writes: how many records the reject file has. Assumes nothing.
use mathlib.Core.Path.{◌≡◌, refl, sym, ap, ◌∙◌}
use mathlib.Core.Bool.{Bool, true, false, not, cond}
use mathlib.Core.List.{List, [], ◌∷◌}
use Prim.Native.Nat.{ℕ, ◌+◌}
use native.Mathlib.Omega.{arith}
use lib.Dec.{eqb}
use Rattle.std.specs.List.{count_by}
use Rattle.std.proofs.lemmas.List.Recursion.{is_count_by}
use Rattle.apply_output.specs.NewFiles.{record_count}

-- a verdict with a code
abbrev pub has_code : ℕ → Bool
has_code v = not (eqb v 0)

-- one for each of these, and the control record
coded : List ℕ → ℕ
coded [] = 0
coded (v ∷ vs) = cond (has_code v) (1 + coded vs) (coded vs)

counted : (vs : List ℕ) → record_count vs ≡ 1 + coded vs
unfolding record_count coded
counted [] = refl
counted (v ∷ vs) = go (eqb v 0) (counted vs)
  where
    go : (b : Bool) → record_count vs ≡ 1 + coded vs → cond b 0 1 + record_count vs ≡ 1 + cond (not b) (1 + coded vs) (coded vs)
    go true e = omega arith
    go false e = omega arith

coded_is : (vs : List ℕ) → coded vs ≡ count_by has_code vs
unfolding coded
coded_is = is_count_by coded has_code refl (λ v vs. refl)

pub records_are : (vs : List ℕ) → 1 + count_by has_code vs ≡ record_count vs
records_are vs = sym (counted vs ∙ ap (λ (n : ℕ). 1 + n) (coded_is vs))
