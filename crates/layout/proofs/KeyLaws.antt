-- Laws of sound keys: their length, and a state of the table. Assumes nothing.
use mathlib.Core.Path.{◌≡◌}
use mathlib.Core.Bool.{true}
use mathlib.Core.List.{List}
use Prim.Native.Nat.{ℕ}
use lib.Dec.{eqb}
use lib.ListN.{length}
use borrow.Author.Tests.{eqb-true}
use Rattle.text.specs.Fields.{columns}
use Rattle.layout.specs.States.{is_state}
use Rattle.layout.specs.Key.{is_sound_key}
use Rattle.text.proofs.FieldsLaws.{and_left, and_right}

module _ (key : List ℕ) (t : is_sound_key key ≡ true) where
  pub sound_length : length key ≡ 12
  unfolding is_sound_key
  sound_length = eqb-true (length key) 12 (and_left (eqb (length key) 12) _ t)

  pub sound_state : is_state (columns 1 2 key) ≡ true
  unfolding is_sound_key
  sound_state = and_left (is_state (columns 1 2 key)) _ (and_right (eqb (length key) 12) _ t)
