-- What a record without an error has in its fields, as far as a row's soundness needs it. Assumes nothing.
use Prim.Native.Nat.{ℕ, ◌≤◌}
use mathlib.Core.Path.{◌≡◌, refl, ◌∙◌}
use mathlib.Core.List.{List}
use mathlib.Core.Bool.{Bool, true, false, not, cond, ◌&&◌, ◌||◌}
use mathlib.Core.Option.{Option}
use native.Mathlib.Omega.{arith}
use borrow.Author.Tests.{not-false, ltb-false}
use lib.Dec.{ltb}
use lib.ListN.{length}
use Rattle.text.specs.Characters.{is_digit, A, B, L, M, S}
use Rattle.text.specs.Fields.{columns, is_blank, is_zero, all_digits, are_digits, number, same_bytes}
use Rattle.layout.specs.States.{is_state}
use Rattle.layout.specs.Ssn.{wrong_ssn}
use Rattle.layout.specs.Name.{is_name, has_letter}
use Rattle.layout.specs.ProcessYear.{in_window}
use Rattle.layout.specs.Locals.{zero_local_code, is_listed, is_local_list}
use Rattle.layout.specs.Key.{is_case_type, is_sound_key}
use Rattle.layout.specs.ChartA1.{local_code, arrearage, process_year}
use Rattle.text.proofs.FieldsLaws.{and_left}
use Rattle.text.proofs.SameLaws.{same_eq}
use Rattle.layout.specs.Record.{record_key, is_type, case_type_of}
use Rattle.judging.specs.Errors.{error01, error02, error04, error05, error07, error08, error09, error10, error13, is_wrong_key, is_live_row, holds09, is_local_code}
use Rattle.onecase.specs.Changes.{added_local_code}
use Rattle.text.proofs.BoolLaws.{or_left, or_right, and_second}
use Rattle.onecase.proofs.JudgementLaws.{NoError}
use Rattle.onecase.proofs.DigitsLaws.{listed_digits}
use Rattle.text.proofs.NumberLaws.{number-not-zero}
use Rattle.judging.specs.Setting.{Setting}
use Rattle.judging.proofs.OwnKeyLaws.{own_sound}

module _ {setting : Setting} {row : Option (List ℕ)} {rec : List ℕ} (n : NoError setting row rec) where
  -- ---- the key

  pub state_right : is_state (columns 1 2 rec) ≡ true
  unfolding error01
  state_right =
      not-false (is_state (columns 1 2 rec))
      (or_left (not (is_state (columns 1 2 rec))) (not (same_bytes (columns 1 2 rec) setting.state)) n.no01)

  pub ssn_right : wrong_ssn (columns 6 14 rec) ≡ false
  unfolding error02
  ssn_right = n.no02

  pub case_type_right : is_case_type (case_type_of rec) ≡ true
  unfolding error04
  case_type_right = not-false (is_case_type (case_type_of rec)) n.no04

  -- ---- the name

  pub name_right : is_name (columns 30 33 rec) ≡ true
  unfolding error05
  name_right =
      not-false (is_name (columns 30 33 rec))
      (or_left (not (is_name (columns 30 33 rec))) ((is_type A rec || is_type B rec) && not (has_letter (columns 30 33 rec))) n.no05)

  pub name_letter : (is_type A rec || is_type B rec) ≡ true → has_letter (columns 30 33 rec) ≡ true
  unfolding error05
  name_letter t =
      not-false (has_letter (columns 30 33 rec))
      (and_second (is_type A rec || is_type B rec) (not (has_letter (columns 30 33 rec))) t
      (or_right (not (is_name (columns 30 33 rec))) ((is_type A rec || is_type B rec) && not (has_letter (columns 30 33 rec))) n.no05))

  -- ---- the arrearage

  pub arrearage_digits : (is_type A rec || is_type M rec || is_type S rec) ≡ true → are_digits 8 (arrearage rec) ≡ true
  unfolding error07
  arrearage_digits t =
      not-false (are_digits 8 (arrearage rec))
      (and_second (is_type A rec || is_type M rec || is_type S rec) (not (are_digits 8 (arrearage rec))) t n.no07)

  pub arrearage_25 : is_type A rec ≡ true → 25 ≤ number (arrearage rec)
  unfolding error08
  arrearage_25 a =
      let d : are_digits 8 (arrearage rec) ≡ true = arrearage_digits (rw a) in
      ltb-false (number (arrearage rec)) 25
      (and_second (are_digits 8 (arrearage rec)) (ltb (number (arrearage rec)) 25) d
      (and_second (is_type A rec) (are_digits 8 (arrearage rec) && ltb (number (arrearage rec)) 25) a n.no08))

  pub arrearage-not-zero : is_type A rec ≡ true → is_zero (arrearage rec) ≡ false
  arrearage-not-zero a = number-not-zero (arrearage rec) (omega (arith, arrearage_25 a))

  -- ---- the process year

  pub year_digits : is_type S rec ≡ true → are_digits 4 (process_year rec) ≡ true
  unfolding error13 in_window
  year_digits s =
      and_left (are_digits 4 (process_year rec)) _
      (not-false (in_window setting.year (process_year rec)) (and_second (is_type S rec) (not (in_window setting.year (process_year rec))) s n.no13))

  -- ---- the row

  pub live_row_lem : is_type A rec ≡ false → is_live_row row ≡ true
  unfolding holds09 error09 is_wrong_key
  live_row_lem a =
      let w : is_wrong_key setting rec ≡ false = rw (n.no01, n.no02, n.no04) in
      not-false (is_live_row row) (rw (n.no03, w, a) at n.no09)

  -- ---- the key of a fresh row

  pub key_sound : length rec ≡ 245 → is_sound_key (record_key rec) ≡ true
  unfolding is_wrong_key
  key_sound e = own_sound setting rec e (rw (n.no01, n.no02, n.no04))

  -- ---- the local code

  pub relocated_digits : is_local_list setting.list ≡ true → is_type L rec ≡ true
      → all_digits (cond (is_blank (local_code rec)) zero_local_code (local_code rec)) ≡ true
  unfolding error10 is_local_code all_digits is_digit
  relocated_digits w t =
      go (is_blank (local_code rec)) (same_bytes (local_code rec) zero_local_code) (is_listed (local_code rec) setting.list) refl refl
      (not-false (is_local_code setting.list rec) (and_second (is_type L rec) (not (is_local_code setting.list rec)) t n.no10))
    where
      go : (a b c : Bool) → same_bytes (local_code rec) zero_local_code ≡ b → is_listed (local_code rec) setting.list ≡ c → (a || b || c) ≡ true
          → all_digits (cond a zero_local_code (local_code rec)) ≡ true
      go true b c f g h = refl
      go false true c f g h = rw (same_eq (local_code rec) zero_local_code f)
      go false false c f g h = listed_digits (local_code rec) setting.list w (g ∙ h)

pub added_digits : (list rec : List ℕ) → is_local_list list ≡ true → all_digits (added_local_code list rec) ≡ true
unfolding added_local_code all_digits is_digit
added_digits list rec w = go (is_listed (local_code rec) list) refl
  where
    go : (b : Bool) → is_listed (local_code rec) list ≡ b → all_digits (cond b (local_code rec) zero_local_code) ≡ true
    go true e = listed_digits (local_code rec) list w e
    go false e = refl
