-- What the errors but 09 and 17 alone decide of the step, whatever the row and the names given. Assumes nothing.
use Prim.Native.Nat.{ℕ}
use mathlib.Core.Path.{◌≡◌, refl, sym, ap}
use mathlib.Core.Bool.{Bool, true, false, ◌&&◌}
use mathlib.Core.List.{List}
use mathlib.Core.Option.{none}
use lib.Dec.{eqb}
use Rattle.text.specs.Options.{is_some}
use Rattle.text.specs.Characters.{A}
use Rattle.layout.specs.Codes.{number_of_codes}
use Rattle.layout.specs.Record.{is_type}
use Rattle.judging.specs.Front.{front_errors}
use Rattle.judging.specs.Setting.{Setting}
use Rattle.judging.proofs.FrontLaws.{add-front}
use Rattle.onecase.specs.Machine.{next}
use Rattle.onecase.proofs.StepLaws.{add_makes, others_make_none}

-- the number of a record's errors but 09 and 17
abbrev pub front_set : Setting → List ℕ → ℕ
front_set setting rec = number_of_codes (front_errors setting.state setting.year setting.list rec)

module _ (setting : Setting) (rec : List ℕ) where
  -- a row is made from none by an A without such an error, and by no other record
  pub front_makes : is_some (next setting none rec) ≡ (is_type A rec && eqb (front_set setting rec) 0)
  front_makes = go (is_type A rec) refl
    where
      go : (b : Bool) → is_type A rec ≡ b → is_some (next setting none rec) ≡ (b && eqb (front_set setting rec) 0)
      go true t =
          sym (add_makes setting rec (front_set setting rec) (ap number_of_codes (sym (add-front setting none rec t))) t)
      go false t = sym (others_make_none setting rec t)
