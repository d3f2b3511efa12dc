-- A row of a key, as wide as rows are, and sound: the one that is found, and one that is put back. Assumes nothing.
use Prim.Native.Nat.{ℕ}
use mathlib.Core.Path.{◌≡◌, refl}
use mathlib.Core.Bool.{true, false}
use mathlib.Core.List.{List}
use mathlib.Core.Option.{Option, none, some}
use lib.ListN.{length}
use Rattle.text.specs.Fields.{same_bytes}
use Rattle.text.proofs.WidthLaws.{All, every_all}
use Rattle.casemaster.specs.Row.{row_key, is_sound_row}
use Rattle.casemaster.specs.Rows.{row_with, with_stored}
use Rattle.casemaster.proofs.SearchLaws.{row_key_lem, with_sound, row_with_same, row_with_other}
use Rattle.casemaster.proofs.RowsLaws.{Each, IsWide, Fit, each_sound, found_all, all_put}

-- 200 bytes with the key
pub record KeyRow (key row : List ℕ) : Type 0 where
  pub wide : length row ≡ 200
  pub key_is : row_key row ≡ key

-- and sound
pub record SoundKeyRow (key row : List ℕ) : Type 0 where
  pub keyed : KeyRow key row
  pub sound : is_sound_row row ≡ true

module _ (key : List ℕ) (rows : List (List ℕ)) where
  -- ---- the row that is found

  pub found_keyed : All IsWide rows → Each (KeyRow key) (row_with key rows)
  found_keyed w = go (row_with key rows) refl (found_all IsWide key rows w)
    where
      go : (o : Option (List ℕ)) → row_with key rows ≡ o → Each IsWide o → Each (KeyRow key) o
      go none e h = tt
      go (some row) e h = record { wide = h; key_is = row_key_lem key rows row e }

  pub found_sound : Fit rows → Each (SoundKeyRow key) (row_with key rows)
  found_sound f =
      go (row_with key rows) (found_keyed f.wide) (found_all Sound key rows (every_all is_sound_row rows (each_sound rows f.sound)))
    where
      Sound : List ℕ → Type 0
      Sound row = is_sound_row row ≡ true

      go : (o : Option (List ℕ)) → Each (KeyRow key) o → Each Sound o → Each (SoundKeyRow key) o
      go none k s = tt
      go (some row) k s = record { keyed = k; sound = s }

  -- ---- one row or none, put back

  -- rows stay wide
  pub stored_wide : (o : Option (List ℕ)) → Each (KeyRow key) o → All IsWide rows → All IsWide (with_stored o rows)
  stored_wide none k w = w
  stored_wide (some row) k w = all_put IsWide row rows k.wide w

  -- sound and in order
  pub stored_fit : (o : Option (List ℕ)) → Each (SoundKeyRow key) o → Fit rows → Fit (with_stored o rows)
  stored_fit none g f = f
  stored_fit (some row) g f =
      record {
        wide = all_put IsWide row rows g.keyed.wide f.wide;
        sound = with_sound row rows f.sound g.sound;
      }

  -- it stands under the key
  pub stored_here : (o : Option (List ℕ)) → Each (KeyRow key) o → (o ≡ none → row_with key rows ≡ none) → row_with key (with_stored o rows) ≡ o
  stored_here none k n = n refl
  stored_here (some row) k n = row_with_same key row rows k.key_is

  -- under any other key nothing changes
  pub stored_other : (other : List ℕ) (o : Option (List ℕ)) → Each (KeyRow key) o → same_bytes key other ≡ false
      → row_with other (with_stored o rows) ≡ row_with other rows
  stored_other other none k n = refl
  stored_other other (some row) k n = row_with_other other row rows (rw k.key_is n)
