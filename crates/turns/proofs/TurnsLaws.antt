-- Laws of one detail's turn over the rows: what is found under each key afterwards, that rows stay sound, wide and in order, and how many
-- there are. The one-case machine is used through its laws alone. Assumes nothing.
use Prim.Native.Nat.{ℕ, suc, ◌+◌, ◌≤◌}
use mathlib.Core.Path.{◌≡◌, refl}
use mathlib.Core.Bool.{Bool, true, false, cond, ◌&&◌, and-false}
use mathlib.Core.List.{List, [], ◌∷◌}
use mathlib.Core.Option.{Option, none, some}
use native.Mathlib.Omega.{arith}
use native.Mathlib.Nat.{le_refl}
use lib.ListN.{length}
use Rattle.text.specs.Options.{is_none}
use Rattle.text.specs.Characters.{A}
use Rattle.text.specs.Fields.{same_bytes}
use Rattle.layout.specs.Locals.{is_local_list}
use Rattle.casemaster.proofs.KeyRowLaws.{KeyRow, found_keyed, found_sound, stored_wide, stored_fit, stored_here, stored_other}
use Rattle.casemaster.specs.Row.{row_key}
use Rattle.casemaster.specs.Master.{are_sound_rows}
use Rattle.casemaster.specs.Rows.{row_with, with_row, with_stored}
use Rattle.text.proofs.SameLaws.{same_eq}
use Rattle.casemaster.proofs.SearchLaws.{length_replaced, length-added}
use Rattle.layout.specs.Record.{record_key, is_type}
use Rattle.onecase.specs.Machine.{next}
use Rattle.onecase.proofs.MachineLaws.{row_stays, only_add_makes, next_keyed, next_sound}
use Rattle.turns.specs.Turns.{after_detail}
use Rattle.text.proofs.WidthLaws.{All}
use Rattle.casemaster.proofs.RowsLaws.{found_all, Each, IsWide, Fit, rows_rise}
use Rattle.turns.specs.Adds.{is_new, adds_without_row}
use Rattle.judging.specs.Setting.{Setting}
use Rattle.turns.specs.Settings.{Settings, setting_under}

-- ---- the row that a detail finds

pub found_wide : (key : List ℕ) (rows : List (List ℕ)) → All IsWide rows → Each IsWide (row_with key rows)
found_wide key rows w = found_all IsWide key rows w

module _ (setting : Setting) where
  -- a row stays, so a step that returns none found none
  pub none_stays : (o : Option (List ℕ)) (detail : List ℕ) → next setting o detail ≡ none → o ≡ none
  none_stays none detail e = refl
  none_stays (some row) detail e = let s = row_stays setting row detail in cc s.1

-- the setting is that of the detail's key
module _ (settings : Settings) (rows : List (List ℕ)) (detail : List ℕ) (e : length detail ≡ 245) where
  abbrev setting : Setting
  setting = setting_under settings (record_key detail)

  abbrev after : List (List ℕ)
  after = after_detail settings rows detail

  abbrev step : Option (List ℕ)
  step = next setting (row_with (record_key detail) rows) detail

  -- ---- what is found afterwards

  step_keyed : All IsWide rows → Each (KeyRow (record_key detail)) step
  step_keyed w = next_keyed setting (row_with (record_key detail) rows) detail e (record_key detail) refl (found_keyed (record_key detail) rows w)

  -- under the detail's key, what the machine made of the row there
  pub after_here : All IsWide rows
      → row_with (record_key detail) (after_detail settings rows detail) ≡ next setting (row_with (record_key detail) rows) detail
  unfolding after_detail
  after_here w = stored_here (record_key detail) rows step (step_keyed w) (none_stays setting (row_with (record_key detail) rows) detail)

  -- under any other, what stood there
  pub after_other : (key : List ℕ) → All IsWide rows → same_bytes (record_key detail) key ≡ false
      → row_with key (after_detail settings rows detail) ≡ row_with key rows
  unfolding after_detail
  after_other key w n = stored_other (record_key detail) rows key step (step_keyed w) n

  -- ---- rows stay sound, wide and in order

  pub after_fit : is_local_list settings.list ≡ true → Fit rows → Fit (after_detail settings rows detail)
  unfolding after_detail
  after_fit l f =
      stored_fit (record_key detail) rows (next setting (row_with (record_key detail) rows) detail)
      (next_sound setting (row_with (record_key detail) rows) detail e (record_key detail) refl l (found_sound (record_key detail) rows f)) f

  pub after_wide : All IsWide rows → All IsWide (after_detail settings rows detail)
  unfolding after_detail
  after_wide w = stored_wide (record_key detail) rows step (step_keyed w) w

  pub after_sound : is_local_list settings.list ≡ true → All IsWide rows → are_sound_rows rows ≡ true
      → are_sound_rows (after_detail settings rows detail) ≡ true
  after_sound l w s = (after_fit l (record { wide = w; sound = s })).sound

  -- ---- how many rows there are

  -- at most one more, and only for a new key
  pub after-length : All IsWide rows → are_sound_rows rows ≡ true
      → length (after_detail settings rows detail) ≤ length rows + cond (is_new rows detail) 1 0
  unfolding after_detail
  after-length w s = go step refl (step_keyed w)
    where
      put : (row : List ℕ) → step ≡ some row → row_key row ≡ record_key detail → (o : Option (List ℕ)) → row_with (record_key detail) rows ≡ o
          → length (with_row row rows) ≤ length rows + cond (is_new rows detail) 1 0
      put row h k none q =
          let a : is_type A detail ≡ true = only_add_makes setting detail row (rw q at h) in
          let n : length (with_row row rows) ≡ suc (length rows) = length-added row rows (rw k q) in
          rw (a, q) (omega arith)
      put row h k (some old) q =
          let n : length (with_row row rows) ≡ length rows = length_replaced row rows old (rows_rise rows s) (rw k q) in
          omega arith

      go : (o : Option (List ℕ)) → step ≡ o → Each (KeyRow (record_key detail)) o → length (with_stored o rows) ≤ length rows + cond (is_new rows detail) 1 0
      go none h k = omega arith
      go (some row) h k = put row h k.key_is (row_with (record_key detail) rows) refl

  -- a key that has a row keeps it
  pub missing_after : (key : List ℕ) → All IsWide rows
      → is_none (row_with key (after_detail settings rows detail)) ≡ true → is_none (row_with key rows) ≡ true
  missing_after key w m = go (same_bytes (record_key detail) key) refl
    where
      stays : (o : Option (List ℕ)) → is_none (next (setting_under settings key) o detail) ≡ true → is_none o ≡ true
      stays none h = refl
      stays (some row) h = let t = row_stays (setting_under settings key) row detail in rw t.1 at h

      go : (t : Bool) → same_bytes (record_key detail) key ≡ t → is_none (row_with key rows) ≡ true
      go true t =
          let k : record_key detail ≡ key = same_eq (record_key detail) key t in
          let h : row_with key after ≡ next (setting_under settings key) (row_with key rows) detail = rw k at (after_here w) in
          stays (row_with key rows) (rw h at m)
      go false t = rw (after_other key w t) at m

  -- so no more details than before have a new key
  pub new_rows-after : All IsWide rows → (details : List (List ℕ))
      → adds_without_row (after_detail settings rows detail) details ≤ adds_without_row rows details
  unfolding adds_without_row
  new_rows-after w [] = le_refl 0
  new_rows-after w (d ∷ details) =
      omega (
        arith,
        new_rows-after w details,
        go (is_type A d) (is_none (row_with (record_key d) after)) (is_none (row_with (record_key d) rows)) (missing_after (record_key d) w),
      )
    where
      go : (a b c : Bool) → (b ≡ true → c ≡ true) → cond (a && b) 1 0 ≤ cond (a && c) 1 0
      go a false c h = rw (and-false a) (omega arith)
      go a true c h = rw (h refl) (le_refl (cond (a && true) 1 0))

  -- the rows and the details to come with a new key stay within a limit
  pub room_after : All IsWide rows → are_sound_rows rows ≡ true → (details : List (List ℕ))
      → length (after_detail settings rows detail) + adds_without_row (after_detail settings rows detail) details
      ≤ length rows + adds_without_row rows (detail ∷ details)
  unfolding adds_without_row
  room_after w s details = omega (arith, after-length w s, new_rows-after w details)
