-- Each type's change leaves a sound row sound, and a fresh row is sound. Assumes nothing.
use Prim.Native.Nat.{ℕ}
use mathlib.Core.Path.{◌≡◌, refl}
use mathlib.Core.List.{List, [], ◌∷◌}
use mathlib.Core.Bool.{Bool, true, false, not, cond, ◌&&◌, ◌||◌, or-true}
use mathlib.Core.Option.{Option}
use lib.Dec.{eqb, lit≤}
use lib.ListN.{length, get_or}
use Rattle.text.specs.Characters.{is_digit, space, A, B, D, L, M, S}
use Rattle.text.specs.Fields.{columns, is_blank, is_zero, all_digits, spaces}
use Rattle.layout.specs.Locals.{zero_local_code, is_local_list}
use Rattle.casemaster.specs.Row.{is_live, is_sound_row}
use Rattle.layout.specs.ChartA1.{local_code, last_name, arrearage, process_year}
use Rattle.text.proofs.FieldsLaws.{digits_all, digits_part}
use Rattle.layout.specs.Record.{is_type}
use Rattle.onecase.specs.Changes.{zeros, added_local_code, fresh_row, recertified, renamed, reidentified, deleted, relocated, amended, excluded, paid, transferred, readdressed}
use Rattle.onecase.proofs.JudgementLaws.{NoError}
use Rattle.text.proofs.ColumnsLaws.{columns_of-columns}
use Rattle.onecase.proofs.ChangesLaws
use Rattle.onecase.proofs.AcceptedLaws
use Rattle.casemaster.proofs.SoundLaws.{SoundAt, columns_of, written_sound, free_sound}
use Rattle.judging.specs.Setting.{Setting}

-- the first four characters of the last name sent
name_front_lem : (rec : List ℕ) → columns 1 4 (last_name rec) ≡ columns 30 33 rec
name_front_lem rec = columns_of-columns 30 49 1 4 rec (lit≤ tt) (lit≤ tt) (lit≤ tt) (lit≤ tt)

arrearage_whole : (rec : List ℕ) → columns 1 8 (arrearage rec) ≡ arrearage rec
arrearage_whole rec = columns_of-columns 65 72 1 8 rec (lit≤ tt) (lit≤ tt) (lit≤ tt) (lit≤ tt)

-- ---- types that write none of the columns that soundness reads: C, R, T, Z

module _ (rec : List ℕ) (e : length rec ≡ 245) (row : List ℕ) (w : length row ≡ 200) (s : SoundAt (columns_of row)) where
  pub reidentified_sound : is_sound_row (reidentified rec row) ≡ true
  reidentified_sound =
      rw (ChangesLaws.reidentified_is rec row)
      (free_sound (ChangesLaws.reidentified_puts rec) row (ChangesLaws.reidentified_fit rec e) w refl s)

  pub excluded_sound : is_sound_row (excluded rec row) ≡ true
  excluded_sound =
      rw (ChangesLaws.excluded_is rec row)
      (free_sound (ChangesLaws.excluded_puts rec) row (ChangesLaws.excluded_fit rec e) w refl s)

  pub transferred_sound : is_sound_row (transferred rec row) ≡ true
  transferred_sound =
      rw (ChangesLaws.transferred_is rec row)
      (free_sound (ChangesLaws.transferred_puts rec) row (ChangesLaws.transferred_fit rec e) w refl s)

  pub readdressed_sound : is_sound_row (readdressed rec row) ≡ true
  readdressed_sound =
      rw (ChangesLaws.readdressed_is rec row)
      (free_sound (ChangesLaws.readdressed_puts rec) row (ChangesLaws.readdressed_fit rec e) w refl s)

-- ---- D: zeros, and D

pub deleted_sound : (row : List ℕ) → length row ≡ 200 → SoundAt (columns_of row) → is_sound_row (deleted row) ≡ true
unfolding all_digits is_digit is_zero
deleted_sound row w s =
    rw (ChangesLaws.deleted_is row)
    (written_sound ChangesLaws.deleted_puts row ChangesLaws.deleted_fit w refl
    record {
      key_sound = s.key_sound;
      local_digits = s.local_digits;
      name_right = s.name_right;
      name_letter = s.name_letter;
      arrearage_digits = refl;
      year_digits = s.year_digits;
      payment_digits = s.payment_digits;
      status_right = refl;
      cents_digits = refl;
      filler-blank = s.filler-blank;
    })

-- the cents that A, D and M write
cents_digits : all_digits (zeros 2) ≡ true
unfolding all_digits is_digit
cents_digits = refl

-- ---- types whose fields are free of errors: A, B, L, M, S

-- M: zero writes D; else the status stays a space
amended_status : (row : List ℕ) → is_live row ≡ true → (zero : Bool)
    → cond (zero && is_zero (zeros 2)) (eqb (get_or (cond (not zero) (columns 196 196 row) (D ∷ [])) 0 0) D)
    (eqb (get_or (cond (not zero) (columns 196 196 row) (D ∷ [])) 0 0) space)
    ≡ true
unfolding is_live is_zero
amended_status row live true = refl
amended_status row live false = live

module _ {setting : Setting} {held : Option (List ℕ)} {rec : List ℕ} (n : NoError setting held rec)
    (e : length rec ≡ 245) where
  -- the arrearage sent, eight digits
  sent_digits : (is_type A rec || is_type M rec || is_type S rec) ≡ true → all_digits (columns 1 8 (arrearage rec)) ≡ true
  sent_digits t = digits_part 1 8 (arrearage rec) (digits_all 8 (arrearage rec) (AcceptedLaws.arrearage_digits n t))

  module _ (row : List ℕ) (w : length row ≡ 200) (s : SoundAt (columns_of row)) where
    pub renamed_sound : is_type B rec ≡ true → is_sound_row (renamed rec row) ≡ true
    renamed_sound b =
        rw (ChangesLaws.renamed_is rec row)
        (written_sound (ChangesLaws.renamed_puts rec) row (ChangesLaws.renamed_fit rec e) w refl
        record {
          key_sound = s.key_sound;
          local_digits = s.local_digits;
          name_right = rw (name_front_lem rec) (AcceptedLaws.name_right n);
          name_letter = rw (name_front_lem rec) (AcceptedLaws.name_letter n (rw b (or-true (is_type A rec))));
          arrearage_digits = s.arrearage_digits;
          year_digits = s.year_digits;
          payment_digits = s.payment_digits;
          status_right = s.status_right;
          cents_digits = s.cents_digits;
          filler-blank = s.filler-blank;
        })

    pub relocated_sound : is_local_list setting.list ≡ true → is_type L rec ≡ true → is_sound_row (relocated rec row) ≡ true
    relocated_sound l t =
        rw (ChangesLaws.relocated_is rec row)
        (written_sound (ChangesLaws.relocated_puts rec) row (ChangesLaws.relocated_fit rec e) w refl
        record {
          key_sound = s.key_sound;
          local_digits =
              digits_part 1 3 (cond (is_blank (local_code rec)) zero_local_code (local_code rec)) (AcceptedLaws.relocated_digits n l t);
          name_right = s.name_right;
          name_letter = s.name_letter;
          arrearage_digits = s.arrearage_digits;
          year_digits = s.year_digits;
          payment_digits = s.payment_digits;
          status_right = s.status_right;
          cents_digits = s.cents_digits;
          filler-blank = s.filler-blank;
        })

    pub paid_sound : is_type S rec ≡ true → is_sound_row (paid rec row) ≡ true
    paid_sound t =
        rw (ChangesLaws.paid_is rec row)
        (written_sound (ChangesLaws.paid_puts rec) row (ChangesLaws.paid_fit rec e) w refl
        record {
          key_sound = s.key_sound;
          local_digits = s.local_digits;
          name_right = s.name_right;
          name_letter = s.name_letter;
          arrearage_digits = s.arrearage_digits;
          year_digits = digits_part 1 4 (process_year rec) (digits_all 4 (process_year rec) (AcceptedLaws.year_digits n t));
          payment_digits = sent_digits (rw t (or-true (is_type A rec || is_type M rec)));
          status_right = s.status_right;
          cents_digits = s.cents_digits;
          filler-blank = s.filler-blank;
        })

    module _ (live : is_live row ≡ true) where
      pub amended_sound : is_type M rec ≡ true → is_sound_row (amended rec row) ≡ true
      amended_sound t =
          rw (ChangesLaws.amended_is rec row)
          (written_sound (ChangesLaws.amended_puts rec) row (ChangesLaws.amended_fit rec e) w refl
          record {
            key_sound = s.key_sound;
            local_digits = s.local_digits;
            name_right = s.name_right;
            name_letter = s.name_letter;
            arrearage_digits = sent_digits (rw (t, or-true));
            year_digits = s.year_digits;
            payment_digits = s.payment_digits;
            status_right = rw (arrearage_whole rec) (amended_status row live (is_zero (arrearage rec)));
            cents_digits = cents_digits;
            filler-blank = s.filler-blank;
          })

      pub recertified_sound : is_local_list setting.list ≡ true → is_type A rec ≡ true → is_sound_row (recertified setting.list rec row) ≡ true
      unfolding is_live
      recertified_sound l a =
          rw (ChangesLaws.recertified_is setting.list rec row)
          (written_sound (ChangesLaws.recertified_puts setting.list rec) row (ChangesLaws.recertified_fit rec e setting.list) w refl
          record {
            key_sound = s.key_sound;
            local_digits = digits_part 1 3 (added_local_code setting.list rec) (AcceptedLaws.added_digits setting.list rec l);
            name_right = rw (name_front_lem rec) (AcceptedLaws.name_right n);
            name_letter = rw (name_front_lem rec) (AcceptedLaws.name_letter n (rw a));
            arrearage_digits = sent_digits (rw a);
            year_digits = s.year_digits;
            payment_digits = s.payment_digits;
            status_right = rw (arrearage_whole rec, AcceptedLaws.arrearage-not-zero n a) live;
            cents_digits = cents_digits;
            filler-blank = s.filler-blank;
          })

  pub fresh_sound : is_local_list setting.list ≡ true → is_type A rec ≡ true → is_sound_row (fresh_row setting.list rec) ≡ true
  unfolding all_digits is_digit is_blank
  fresh_sound l a =
      rw (ChangesLaws.fresh_is setting.list rec)
      (written_sound (ChangesLaws.fresh_puts setting.list rec) (spaces 200) (ChangesLaws.fresh_fit rec e setting.list) refl refl
      record {
        key_sound = rw (ChangesLaws.key_whole rec e) (AcceptedLaws.key_sound n e);
        local_digits = digits_part 1 3 (added_local_code setting.list rec) (AcceptedLaws.added_digits setting.list rec l);
        name_right = rw (name_front_lem rec) (AcceptedLaws.name_right n);
        name_letter = rw (name_front_lem rec) (AcceptedLaws.name_letter n (rw a));
        arrearage_digits = sent_digits (rw a);
        year_digits = refl;
        payment_digits = refl;
        status_right = rw (arrearage_whole rec, AcceptedLaws.arrearage-not-zero n a);
        cents_digits = refl;
        filler-blank = refl;
      })
