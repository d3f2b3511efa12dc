-- A key is a sound one of the control record's state exactly where the record has none of 01, 02 and 04: both look at the same fields.
-- Assumes nothing.
use Prim.Native.Nat.{ℕ}
use mathlib.Core.Path.{◌≡◌, refl, sym, ap, ◌∙◌}
use mathlib.Core.Bool.{Bool, true, false, not, ◌&&◌, ◌||◌}
use mathlib.Core.List.{List}
use borrow.Author.Tests.{not-false}
use lib.ListN.{length}
use Rattle.text.specs.Fields.{columns, same_bytes}
use Rattle.layout.specs.States.{is_state}
use Rattle.layout.specs.Ssn.{wrong_ssn}
use Rattle.layout.specs.Key.{is_case_type, is_sound_key, is_own_key}
use Rattle.layout.specs.Record.{record_key, case_type_of}
use Rattle.text.proofs.FieldsLaws.{and_left}
use Rattle.layout.proofs.RecordLaws.{key_length, key_state, key_ssn, key_case_type}
use Rattle.judging.specs.Setting.{Setting}
use Rattle.judging.specs.Errors.{error01, error02, error04, is_wrong_key}

module _ (setting : Setting) (rec : List ℕ) (e : length rec ≡ 245) where
  pub own_wrong : is_own_key setting.state (record_key rec) ≡ not (is_wrong_key setting rec)
  unfolding is_own_key is_sound_key is_wrong_key error01 error02 error04
  own_wrong =
      rw (key_length rec e, key_state rec e, key_ssn rec e, key_case_type rec e)
      (go (is_state (columns 1 2 rec)) (same_bytes (columns 1 2 rec) setting.state) (wrong_ssn (columns 6 14 rec)) (is_case_type (case_type_of rec)))
    where
      go : (a b c d : Bool) → (a && (not c && d) && b) ≡ not (not a || not b || c || not d)
      go true true true d = refl
      go true true false true = refl
      go true true false false = refl
      go true false true d = refl
      go true false false true = refl
      go true false false false = refl
      go false b c d = refl

  pub other_wrong : is_own_key setting.state (record_key rec) ≡ false → is_wrong_key setting rec ≡ true
  other_wrong f = not-false (is_wrong_key setting rec) (sym own_wrong ∙ f)

  -- without 01, 02 and 04 the key is sound
  pub own_sound : is_wrong_key setting rec ≡ false → is_sound_key (record_key rec) ≡ true
  unfolding is_own_key
  own_sound f =
      and_left (is_sound_key (record_key rec)) (same_bytes (columns 1 2 (record_key rec)) setting.state) (own_wrong ∙ ap not f)
