-- A row's soundness by its columns: it reads those of the key, local code, first four characters of the last name, arrearage, payment,
-- status, cents and filler, and rows that agree on these are equally sound; so is what is written into a row, read field by field.
-- Assumes nothing.
use Prim.Native.Nat.{ℕ, ◌+◌, ◌-◌, ◌≤◌}
use mathlib.Core.Path.{◌≡◌, sym, ap, ◌∙◌}
use mathlib.Core.List.{List}
use mathlib.Core.Bool.{Bool, true, cond, ◌&&◌}
use native.Mathlib.Omega.{arith}
use lib.Dec.{eqb, lit≤}
use lib.ListN.{length, get_or}
use Rattle.text.specs.Characters.{is_digit, space, D}
use Rattle.text.specs.Fields.{columns, is_blank, is_zero, all_digits}
use Rattle.layout.specs.Name.{is_name, has_letter}
use Rattle.layout.specs.Key.{is_sound_key}
use Rattle.casemaster.specs.Row.{is_balance_zero, is_live, is_deleted, is_deleted_exactly, are_fields_sound, is_end_sound, is_sound_row}
use Rattle.text.proofs.FieldsLaws.{and_left, and_right, length-columns}
use Rattle.text.proofs.BoolLaws.{and_both}
use Rattle.layout.proofs.LocalsLaws.{every_append}
use Rattle.text.proofs.ColumnsLaws.{columns_split, Put, written, AllFit, is_clear, read, columns-written, is_free, columns_free}

-- ---- the columns that soundness reads

-- sound, where the columns first to last are at first last
pub record SoundAt (at : ℕ → ℕ → List ℕ) : Type 0 where
  pub key_sound : is_sound_key (at 1 12) ≡ true
  pub local_digits : all_digits (at 13 15) ≡ true
  pub name_right : is_name (at 31 34) ≡ true
  pub name_letter : has_letter (at 31 34) ≡ true
  pub arrearage_digits : all_digits (at 66 73) ≡ true
  pub year_digits : all_digits (at 79 82) ≡ true
  pub payment_digits : all_digits (at 83 90) ≡ true
  pub status_right :
      cond (is_zero (at 66 73) && is_zero (at 197 198)) (eqb (get_or (at 196 196) 0 0) D) (eqb (get_or (at 196 196) 0 0) space) ≡ true
  pub cents_digits : all_digits (at 197 198) ≡ true
  pub filler-blank : is_blank (at 199 200) ≡ true

-- the columns of a row
abbrev pub columns_of : List ℕ → ℕ → ℕ → List ℕ
columns_of row first last = columns first last row

-- 79–90 as 79–82 and 83–90
two_digits : (row : List ℕ) → all_digits (columns 79 90 row) ≡ (all_digits (columns 79 82 row) && all_digits (columns 83 90 row))
unfolding all_digits
two_digits row =
    ap all_digits (columns_split 79 82 90 row (lit≤ tt) (lit≤ tt) (lit≤ tt)) ∙ every_append is_digit (columns 79 82 row) (columns 83 90 row)

module _ (row : List ℕ) where
  pub sound_columns : is_sound_row row ≡ true → SoundAt (columns_of row)
  unfolding is_sound_row are_fields_sound is_end_sound is_balance_zero is_deleted is_live
  sound_columns t0 =
      let t = and_right (is_sound_key (columns 1 12 row)) (are_fields_sound row && is_end_sound row) t0 in
      let t1 = and_left (are_fields_sound row) (is_end_sound row) t in
      let e1 = and_right (are_fields_sound row) (is_end_sound row) t in
      let e2 = and_right (is_deleted_exactly (is_balance_zero row) row) (all_digits (columns 197 198 row) && is_blank (columns 199 200 row)) e1 in
      let t2 = and_right (all_digits (columns 13 15 row)) _ t1 in
      let t3 = and_right (all_digits (columns 66 73 row)) _ t2 in
      let t4 = and_right (all_digits (columns 79 90 row)) _ t3 in
      let p = sym (two_digits row) ∙ and_left (all_digits (columns 79 90 row)) _ t3 in
      record {
        key_sound = and_left (is_sound_key (columns 1 12 row)) (are_fields_sound row && is_end_sound row) t0;
        local_digits = and_left (all_digits (columns 13 15 row)) _ t1;
        name_right = and_left (is_name (columns 31 34 row)) _ t4;
        name_letter = and_right (is_name (columns 31 34 row)) (has_letter (columns 31 34 row)) t4;
        arrearage_digits = and_left (all_digits (columns 66 73 row)) _ t2;
        year_digits = and_left (all_digits (columns 79 82 row)) (all_digits (columns 83 90 row)) p;
        payment_digits = and_right (all_digits (columns 79 82 row)) (all_digits (columns 83 90 row)) p;
        status_right =
            and_left (is_deleted_exactly (is_balance_zero row) row) (all_digits (columns 197 198 row) && is_blank (columns 199 200 row)) e1;
        cents_digits = and_left (all_digits (columns 197 198 row)) (is_blank (columns 199 200 row)) e2;
        filler-blank = and_right (all_digits (columns 197 198 row)) (is_blank (columns 199 200 row)) e2;
      }

  pub columns_sound : SoundAt (columns_of row) → is_sound_row row ≡ true
  unfolding is_sound_row are_fields_sound is_end_sound is_balance_zero is_deleted is_live
  columns_sound s =
      let p : all_digits (columns 79 90 row) ≡ true =
      two_digits row ∙ and_both (all_digits (columns 79 82 row)) (all_digits (columns 83 90 row)) s.year_digits s.payment_digits in
      rw (s.key_sound, s.local_digits, s.arrearage_digits, p, s.name_right, s.name_letter, s.status_right, s.cents_digits, s.filler-blank)

-- ---- rows that agree on them

pub record SameAt (f g : ℕ → ℕ → List ℕ) : Type 0 where
  pub same_key : f 1 12 ≡ g 1 12
  pub same_local : f 13 15 ≡ g 13 15
  pub same_name : f 31 34 ≡ g 31 34
  pub same_arrearage : f 66 73 ≡ g 66 73
  pub same_year : f 79 82 ≡ g 79 82
  pub same_payment : f 83 90 ≡ g 83 90
  pub same_status : f 196 196 ≡ g 196 196
  pub same_cents : f 197 198 ≡ g 197 198
  pub same_filler : f 199 200 ≡ g 199 200

pub same_sound : (f g : ℕ → ℕ → List ℕ) → SameAt f g → SoundAt g → SoundAt f
same_sound f g e s =
    record {
      key_sound = rw e.same_key s.key_sound;
      local_digits = rw e.same_local s.local_digits;
      name_right = rw e.same_name s.name_right;
      name_letter = rw e.same_name s.name_letter;
      arrearage_digits = rw e.same_arrearage s.arrearage_digits;
      year_digits = rw e.same_year s.year_digits;
      payment_digits = rw e.same_payment s.payment_digits;
      status_right = rw (e.same_arrearage, e.same_status, e.same_cents) s.status_right;
      cents_digits = rw e.same_cents s.cents_digits;
      filler-blank = rw e.same_filler s.filler-blank;
    }

-- a test of the places of those columns
abbrev pub at_each : (ℕ → ℕ → Bool) → Bool
at_each t = t 1 12 && (t 13 15 && (t 31 34 && (t 66 73 && (t 79 82 && (t 83 90 && (t 196 196 && (t 197 198 && t 199 200)))))))

-- columns that agree where a test passes agree on them if it passes at each
same_by : (f g : ℕ → ℕ → List ℕ) (t : ℕ → ℕ → Bool) → ((a z : ℕ) → 1 ≤ a → a ≤ z + 1 → t a z ≡ true → f a z ≡ g a z)
    → at_each t ≡ true → SameAt f g
same_by f g t h c1 =
    let c2 = and_right (t 1 12) _ c1 in
    let c3 = and_right (t 13 15) _ c2 in
    let c4 = and_right (t 31 34) _ c3 in
    let c5 = and_right (t 66 73) _ c4 in
    let c6 = and_right (t 79 82) _ c5 in
    let c7 = and_right (t 83 90) _ c6 in
    let c8 = and_right (t 196 196) _ c7 in
    record {
      same_key = h 1 12 (lit≤ tt) (lit≤ tt) (and_left (t 1 12) _ c1);
      same_local = h 13 15 (lit≤ tt) (lit≤ tt) (and_left (t 13 15) _ c2);
      same_name = h 31 34 (lit≤ tt) (lit≤ tt) (and_left (t 31 34) _ c3);
      same_arrearage = h 66 73 (lit≤ tt) (lit≤ tt) (and_left (t 66 73) _ c4);
      same_year = h 79 82 (lit≤ tt) (lit≤ tt) (and_left (t 79 82) _ c5);
      same_payment = h 83 90 (lit≤ tt) (lit≤ tt) (and_left (t 83 90) _ c6);
      same_status = h 196 196 (lit≤ tt) (lit≤ tt) (and_left (t 196 196) _ c7);
      same_cents = h 197 198 (lit≤ tt) (lit≤ tt) (and_left (t 197 198) _ c8);
      same_filler = h 199 200 (lit≤ tt) (lit≤ tt) (and_right (t 197 198) _ c8);
    }

-- ---- what is written into a row

-- each field has all or none of the columns of each of the nine
abbrev pub are_clear : List Put → Bool
are_clear ps = at_each (λ a z. is_clear a z ps)

-- no field has any of them
abbrev pub are_free : List Put → Bool
are_free ps = at_each (λ a z. is_free a z ps)

abbrev pub read_of : List Put → List ℕ → ℕ → ℕ → List ℕ
read_of ps s first last = read first last ps s

module _ (ps : List Put) (s : List ℕ) (f : AllFit 200 ps) (e : length s ≡ 200) where
  -- a row is sound after fields are written where its columns, read off the fields, are
  pub written_sound : are_clear ps ≡ true → SoundAt (read_of ps s) → is_sound_row (written ps s) ≡ true
  written_sound c h =
      columns_sound (written ps s)
      (same_sound (columns_of (written ps s)) (read_of ps s)
      (same_by (columns_of (written ps s)) (read_of ps s) (λ a z. is_clear a z ps)
      (λ a z l o t. columns-written 200 a z l o ps s t f e) c) h)

  -- fields in other columns leave a sound row sound
  pub free_sound : are_free ps ≡ true → SoundAt (columns_of s) → is_sound_row (written ps s) ≡ true
  free_sound c h =
      columns_sound (written ps s)
      (same_sound (columns_of (written ps s)) (columns_of s)
      (same_by (columns_of (written ps s)) (columns_of s) (λ a z. is_free a z ps)
      (λ a z l o t. columns_free 200 a z l o ps s t f e) c) h)

-- ---- a row's columns

pub row-columns : (row : List ℕ) → length row ≡ 200 → (a z : ℕ) → 1 ≤ a → a ≤ z + 1 → z ≤ 200 → length (columns a z row) ≡ z + 1 - a
row-columns row w a z l o h = length-columns a z row (record { low = l; ordered = o; high = omega arith })
