-- A record with a row's key and its stored name, of type C, L, R or M, whose own field is right, has no error on that row while it is live. Assumes nothing.
use Prim.Native.Nat.{ℕ}
use mathlib.Core.Path.{◌≡◌, refl, sym, ◌∙◌}
use mathlib.Core.List.{List}
use mathlib.Core.Bool.{true, false, ◌||◌, and-false}
use mathlib.Core.Option.{some}
use borrow.Author.Tests.{not-true}
use lib.Dec.{eqb, lit≤}
use lib.ListN.{length}
use Rattle.text.specs.Options.{is_none}
use Rattle.text.specs.Characters.{A, B, C, D, L, M, R, S, letter_t, Z}
use Rattle.text.specs.Fields.{columns, is_blank, are_digits}
use Rattle.text.proofs.BoolLaws.{or_left, or_right}
use Rattle.text.proofs.SameLaws.{eq_same}
use Rattle.text.proofs.ColumnsLaws.{columns_of-columns}
use Rattle.layout.specs.Name.{is_name}
use Rattle.exclusionsets.specs.Exclusions.{exclusions_of}
use Rattle.layout.specs.Key.{is_sound_key, is_own_key}
use Rattle.layout.specs.ChartA1.{case_id, arrearage, exclusions}
use Rattle.layout.specs.Record.{record_key, type_of}
use Rattle.layout.proofs.RecordLaws.{known_type}
use Rattle.casemaster.specs.Row.{row_key, row_state, is_live}
use Rattle.judging.specs.Setting.{Setting}
use Rattle.judging.specs.Errors.{error01, error02, error03, error04, error05, error06, error07, error08, error09, error10, error11, error12, error13, error14, error15, error16, error17, error18, is_wrong_key, is_live_row, is_other_name, is_local_code, holds09, holds17}
use Rattle.judging.proofs.OwnKeyLaws.{own_wrong}
use Rattle.onecase.proofs.JudgementLaws.{NoError}

-- what is asked of such a record
pub record Sent (kind : ℕ) (row rec : List ℕ) : Type 0 where
  pub wide : length rec ≡ 245
  pub type_is : type_of rec ≡ kind
  pub key_is : record_key rec ≡ row_key row
  pub name_is : columns 30 33 rec ≡ columns 31 34 row
  pub filler-blank : is_blank (columns 228 244 rec) ≡ true

-- a type that is none of A, B, S, T and Z
pub record IsKind (kind : ℕ) : Type 0 where
  pub known : (eqb kind A || eqb kind B || eqb kind C || eqb kind D || eqb kind L || eqb kind M || eqb kind R || eqb kind S || eqb kind letter_t || eqb kind Z) ≡ true
  pub no_a : eqb kind A ≡ false
  pub no_b : eqb kind B ≡ false
  pub no_s : eqb kind S ≡ false
  pub no_t : eqb kind letter_t ≡ false
  pub no_z : eqb kind Z ≡ false

-- no error that goes by the record's own field
pub record OwnFieldRight (list rec : List ℕ) : Type 0 where
  pub own07 : error07 rec ≡ false
  pub own10 : error10 list rec ≡ false
  pub own11 : error11 rec ≡ false
  pub own16 : error16 rec ≡ false

module _ (setting : Setting) (kind : ℕ) (row rec r : List ℕ) (s : Sent kind row rec) (d : IsKind kind)
    (own : setting.state ≡ row_state row) (k : is_sound_key (row_key row) ≡ true) (nm : is_name (columns 31 34 row) ≡ true)
    (live : is_live r ≡ true) (name : columns 31 34 r ≡ columns 31 34 row) where
  key_own : is_wrong_key setting rec ≡ false
  unfolding is_own_key
  key_own =
      let st : columns 1 2 (row_key row) ≡ setting.state =
      columns_of-columns 1 12 1 2 row (lit≤ tt) (lit≤ tt) (lit≤ tt) (lit≤ tt) ∙ sym own in
      let o : is_own_key setting.state (record_key rec) ≡ true = rw (s.key_is, k) (eq_same (columns 1 2 (row_key row)) setting.state st) in
      not-true (is_wrong_key setting rec) (sym (own_wrong setting rec s.wide) ∙ o)

  known : error03 rec ≡ false
  unfolding error03
  known = rw (known_type rec kind s.type_is d.known)

  name_05 : error05 rec ≡ false
  unfolding error05
  name_05 = rw (s.name_is, nm, s.type_is, d.no_a, d.no_b)

  row_09 : error09 (some r) rec ≡ false
  unfolding error09 is_live_row
  row_09 = rw (live, and-false)

  name_17 : error17 setting.names (some r) rec ≡ false
  unfolding error17 is_other_name
  name_17 =
      let e = eq_same (columns 30 33 rec) (columns 31 34 r) (s.name_is ∙ sym name) in
      rw (e, and-false)

  pub no_error : OwnFieldRight setting.list rec → NoError setting (some r) rec
  unfolding is_wrong_key error06 error08 error12 error13 error14 error15 error18 holds09 holds17
  no_error o =
      let n12 = or_left (error01 setting.state rec || error02 rec) (error04 rec) key_own in
      record {
        no01 = or_left (error01 setting.state rec) (error02 rec) n12;
        no02 = or_right (error01 setting.state rec) (error02 rec) n12;
        no03 = known;
        no04 = or_right (error01 setting.state rec || error02 rec) (error04 rec) key_own;
        no05 = name_05;
        no06 = rw (s.type_is, d.no_a, d.no_b);
        no07 = o.own07;
        no08 = rw (s.type_is, d.no_a);
        no09 = rw (row_09, and-false, and-false);
        no10 = o.own10;
        no11 = o.own11;
        no12 = rw (s.type_is, d.no_t);
        no13 = rw (s.type_is, d.no_s);
        no14 = rw (s.type_is, d.no_z, d.no_a);
        no15 = rw (s.type_is, d.no_a);
        no16 = o.own16;
        no17 = rw (name_17, and-false, and-false, and-false, and-false);
        no18 = rw s.filler-blank;
      }

-- ---- the four types

pub kind_c : IsKind C
kind_c = record { known = refl; no_a = refl; no_b = refl; no_s = refl; no_t = refl; no_z = refl }

pub kind_l : IsKind L
kind_l = record { known = refl; no_a = refl; no_b = refl; no_s = refl; no_t = refl; no_z = refl }

pub kind_r : IsKind R
kind_r = record { known = refl; no_a = refl; no_b = refl; no_s = refl; no_t = refl; no_z = refl }

pub kind_m : IsKind M
kind_m = record { known = refl; no_a = refl; no_b = refl; no_s = refl; no_t = refl; no_z = refl }

-- ---- their own fields

module _ (list row rec : List ℕ) where
  pub own_c : Sent C row rec → is_blank (case_id rec) ≡ false → OwnFieldRight list rec
  unfolding error07 error10 error11 error16
  own_c s t =
      record { own07 = rw s.type_is; own10 = rw s.type_is; own11 = rw (s.type_is, t); own16 = rw s.type_is }

  pub own_l : Sent L row rec → is_local_code list rec ≡ true → OwnFieldRight list rec
  unfolding error07 error10 error11 error16
  own_l s t =
      record { own07 = rw s.type_is; own10 = rw (s.type_is, t); own11 = rw s.type_is; own16 = rw s.type_is }

  pub own_r : Sent R row rec → is_none (exclusions_of (exclusions rec)) ≡ false → OwnFieldRight list rec
  unfolding error07 error10 error11 error16
  own_r s t =
      record { own07 = rw s.type_is; own10 = rw s.type_is; own11 = rw s.type_is; own16 = rw (s.type_is, t) }

  pub own_m : Sent M row rec → are_digits 8 (arrearage rec) ≡ true → OwnFieldRight list rec
  unfolding error07 error10 error11 error16
  own_m s t =
      record { own07 = rw (s.type_is, t); own10 = rw s.type_is; own11 = rw s.type_is; own16 = rw s.type_is }
