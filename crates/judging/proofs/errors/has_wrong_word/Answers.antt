-- `errors::has_wrong_word` meets its contract: a word is wrong where reading fails. Assumes nothing.
use mathlib.Core.Bool.{Bool, true, false, not}
use mathlib.Core.Path.{◌≡◌, refl, ap, ◌∙◌}
use Prim.Native.Nat.{ℕ}
use Rattle.std.specs.Prelude as library
use Rattle.text.specs.Options.{is_none}
use Rattle.exclusionsets.specs.Exclusions.{exclusions_of, set_read}
use Rattle.judging.proofs.errors.has_wrong_word.Goals as goal

failed : (o : library.Option ℕ) (b : Bool) → library.is_some o ≡ not b → b ≡ is_none (set_read o)
failed library.None true e = refl
failed library.None false e = cc
failed (library.Some set) true e = cc
failed (library.Some set) false e = refl

pub returns : goal.returns
returns c =
    failed c.read_exclusions.result c.is_none.result c.is_none.ensures
    ∙ ap is_none (c.read_exclusions.ensures ∙ ap exclusions_of c.field.ensures)
