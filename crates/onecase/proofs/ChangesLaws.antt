-- What each type of record writes into a row, as a list of fields: they fit, so that a row of 200 bytes stays one, and all but a fresh
-- row's leave the key. Assumes nothing.
use Prim.Native.Nat.{ℕ}
use mathlib.Core.Path.{◌≡◌, refl, ◌∙◌}
use mathlib.Core.List.{List, [], ◌∷◌}
use mathlib.Core.Bool.{Bool, true, false, not, cond}
use native.Mathlib.Omega.{arith}
use lib.Dec.{lit≤}
use lib.ListN.{length}
use lib.Seq.{take_all}
use Rattle.text.specs.Characters.{D}
use Rattle.text.specs.Fields.{columns, is_blank, is_zero, spaces}
use Rattle.layout.specs.Locals.{zero_local_code, is_listed}
use Rattle.layout.specs.ChartA1.{local_code, case_id, last_name, first_name, arrearage, transfer_state, transfer_local_code, process_year, date_issued}
use Rattle.layout.specs.Record.{record_key}
use Rattle.onecase.specs.Changes.{zeros, address, exclusion_byte, added_local_code, fresh_row, recertified, renamed, reidentified, deleted, relocated, amended, excluded, paid, transferred, readdressed}
use Rattle.text.proofs.ColumnsLaws.{Put, put, put_unless, written, length-written, columns-written, is_free, columns_free, Fits, AllFit, is_as_wide, fits-columns}
use Rattle.layout.proofs.RecordLaws.{length-sent, key_length}

-- ---- the fields

-- 00 for the cents
abbrev zero_cents : Put
zero_cents = put 197 198 (zeros 2)

abbrev pub fresh_puts : List ℕ → List ℕ → List Put
fresh_puts list rec =
    put 1 12 (record_key rec) ∷ put 13 15 (added_local_code list rec) ∷ put 16 30 (case_id rec) ∷ put 31 50 (last_name rec)
    ∷ put 51 65 (first_name rec) ∷ put 66 73 (arrearage rec) ∷ put 79 90 (zeros 12) ∷ put 91 186 (address rec)
    ∷ put 187 194 (date_issued rec) ∷ put 195 195 (exclusion_byte rec) ∷ zero_cents ∷ []

abbrev pub recertified_puts : List ℕ → List ℕ → List Put
recertified_puts list rec =
    put 13 15 (added_local_code list rec) ∷ put_unless (is_blank (case_id rec)) 16 30 (case_id rec) ∷ put 31 50 (last_name rec)
    ∷ put 51 65 (first_name rec) ∷ put 66 73 (arrearage rec) ∷ put_unless (is_blank (address rec)) 91 186 (address rec)
    ∷ put_unless (is_blank (date_issued rec)) 187 194 (date_issued rec) ∷ put 195 195 (exclusion_byte rec) ∷ zero_cents ∷ []

abbrev pub renamed_puts : List ℕ → List Put
renamed_puts rec = put 51 65 (first_name rec) ∷ put 31 50 (last_name rec) ∷ []

abbrev pub reidentified_puts : List ℕ → List Put
reidentified_puts rec = put 16 30 (case_id rec) ∷ []

abbrev pub deleted_puts : List Put
deleted_puts = put 196 196 (D ∷ []) ∷ put 66 73 (zeros 8) ∷ zero_cents ∷ []

abbrev pub relocated_puts : List ℕ → List Put
relocated_puts rec = put 13 15 (cond (is_blank (local_code rec)) zero_local_code (local_code rec)) ∷ []

abbrev pub amended_puts : List ℕ → List Put
amended_puts rec = put_unless (not (is_zero (arrearage rec))) 196 196 (D ∷ []) ∷ put 66 73 (arrearage rec) ∷ zero_cents ∷ []

abbrev pub excluded_puts : List ℕ → List Put
excluded_puts rec = put 195 195 (exclusion_byte rec) ∷ []

abbrev pub paid_puts : List ℕ → List Put
paid_puts rec = put 83 90 (arrearage rec) ∷ put 79 82 (process_year rec) ∷ []

abbrev pub transferred_puts : List ℕ → List Put
transferred_puts rec =
    put_unless (is_blank (transfer_local_code rec)) 76 78 (transfer_local_code rec) ∷ put 74 75 (transfer_state rec) ∷ []

abbrev pub readdressed_puts : List ℕ → List Put
readdressed_puts rec = put 91 186 (address rec) ∷ []

-- ---- each change writes them

pub fresh_is : (list rec : List ℕ) → fresh_row list rec ≡ written (fresh_puts list rec) (spaces 200)
unfolding fresh_row
fresh_is list rec = refl

pub recertified_is : (list rec row : List ℕ) → recertified list rec row ≡ written (recertified_puts list rec) row
unfolding recertified
recertified_is list rec row = refl

pub deleted_is : (row : List ℕ) → deleted row ≡ written deleted_puts row
unfolding deleted
deleted_is row = refl

module _ (rec row : List ℕ) where
  pub renamed_is : renamed rec row ≡ written (renamed_puts rec) row
  unfolding renamed
  renamed_is = refl

  pub reidentified_is : reidentified rec row ≡ written (reidentified_puts rec) row
  unfolding reidentified
  reidentified_is = refl

  pub relocated_is : relocated rec row ≡ written (relocated_puts rec) row
  unfolding relocated
  relocated_is = refl

  pub amended_is : amended rec row ≡ written (amended_puts rec) row
  unfolding amended
  amended_is = refl

  pub excluded_is : excluded rec row ≡ written (excluded_puts rec) row
  unfolding excluded
  excluded_is = refl

  pub paid_is : paid rec row ≡ written (paid_puts rec) row
  unfolding paid
  paid_is = refl

  pub transferred_is : transferred rec row ≡ written (transferred_puts rec) row
  unfolding transferred
  transferred_is = refl

  pub readdressed_is : readdressed rec row ≡ written (readdressed_puts rec) row
  unfolding readdressed
  readdressed_is = refl

-- ---- they fit

cond-length : (n : ℕ) (b : Bool) (x y : List ℕ) → length x ≡ n → length y ≡ n → length (cond b x y) ≡ n
cond-length n true x y e f = e
cond-length n false x y e f = f

cents_fit : AllFit 200 (zero_cents ∷ [])
cents_fit = (record { low = lit≤ tt; wide = refl; high = lit≤ tt }, tt)

module _ (rec : List ℕ) (e : length rec ≡ 245) where
  -- columns a to z of the record, in columns first to last of the row
  sent : (keep : Bool) (first last a z : ℕ) → is_as_wide 200 first last 245 a z ≡ true → Fits 200 (put_unless keep first last (columns a z rec))
  sent keep first last a z t = fits-columns 200 first last 245 a z keep rec e t

  local_length : length (local_code rec) ≡ 3
  local_length = length-sent rec e 3 5 (lit≤ tt) (lit≤ tt) (lit≤ tt)

  added-length : (list : List ℕ) → length (added_local_code list rec) ≡ 3
  unfolding added_local_code
  added-length list = cond-length 3 (is_listed (local_code rec) list) (local_code rec) zero_local_code local_length refl

  added-fits : (list : List ℕ) → Fits 200 (put 13 15 (added_local_code list rec))
  added-fits list = record { low = lit≤ tt; wide = omega (arith, added-length list); high = lit≤ tt }

  set-fits : Fits 200 (put 195 195 (exclusion_byte rec))
  unfolding exclusion_byte
  set-fits = record { low = lit≤ tt; wide = refl; high = lit≤ tt }

  pub fresh_fit : (list : List ℕ) → AllFit 200 (fresh_puts list rec)
  fresh_fit list = (
    record { low = lit≤ tt; wide = omega (arith, key_length rec e); high = lit≤ tt },
    (
      added-fits list,
      (
        sent false 16 30 15 29 refl,
        (
          sent false 31 50 30 49 refl,
          (
            sent false 51 65 50 64 refl,
            (
              sent false 66 73 65 72 refl,
              (
                record { low = lit≤ tt; wide = refl; high = lit≤ tt },
                (sent false 91 186 84 179 refl, (sent false 187 194 180 187 refl, (set-fits, cents_fit))),
              ),
            ),
          ),
        ),
      ),
    ),
  )

  pub recertified_fit : (list : List ℕ) → AllFit 200 (recertified_puts list rec)
  recertified_fit list = (
    added-fits list,
    (
      sent (is_blank (case_id rec)) 16 30 15 29 refl,
      (
        sent false 31 50 30 49 refl,
        (
          sent false 51 65 50 64 refl,
          (
            sent false 66 73 65 72 refl,
            (
              sent (is_blank (address rec)) 91 186 84 179 refl,
              (sent (is_blank (date_issued rec)) 187 194 180 187 refl, (set-fits, cents_fit)),
            ),
          ),
        ),
      ),
    ),
  )

  pub renamed_fit : AllFit 200 (renamed_puts rec)
  renamed_fit = (sent false 51 65 50 64 refl, (sent false 31 50 30 49 refl, tt))

  pub reidentified_fit : AllFit 200 (reidentified_puts rec)
  reidentified_fit = (sent false 16 30 15 29 refl, tt)

  pub relocated_fit : AllFit 200 (relocated_puts rec)
  relocated_fit = (
    record {
      low = lit≤ tt;
      wide = omega (arith, cond-length 3 (is_blank (local_code rec)) zero_local_code (local_code rec) refl local_length);
      high = lit≤ tt;
    },
    tt,
  )

  pub amended_fit : AllFit 200 (amended_puts rec)
  amended_fit = (record { low = lit≤ tt; wide = refl; high = lit≤ tt }, (sent false 66 73 65 72 refl, cents_fit))

  pub excluded_fit : AllFit 200 (excluded_puts rec)
  excluded_fit = (set-fits, tt)

  pub paid_fit : AllFit 200 (paid_puts rec)
  paid_fit = (sent false 83 90 65 72 refl, (sent false 79 82 80 83 refl, tt))

  pub transferred_fit : AllFit 200 (transferred_puts rec)
  transferred_fit = (sent (is_blank (transfer_local_code rec)) 76 78 77 79 refl, (sent false 74 75 75 76 refl, tt))

  pub readdressed_fit : AllFit 200 (readdressed_puts rec)
  readdressed_fit = (sent false 91 186 84 179 refl, tt)

pub deleted_fit : AllFit 200 deleted_puts
deleted_fit = (record { low = lit≤ tt; wide = refl; high = lit≤ tt }, (record { low = lit≤ tt; wide = refl; high = lit≤ tt }, cents_fit))

-- ---- width and key

-- a row that is 200 bytes wide, with the key of the row before
pub record Kept (row new : List ℕ) : Type 0 where
  pub wide : length new ≡ 200
  pub key : columns 1 12 new ≡ columns 1 12 row

kept : (ps : List Put) (row new : List ℕ) → new ≡ written ps row → is_free 1 12 ps ≡ true → AllFit 200 ps → length row ≡ 200 → Kept row new
kept ps row new i c f w =
    record {
      wide = rw i (length-written 200 ps row f w);
      key = rw i (columns_free 200 1 12 (lit≤ tt) (lit≤ tt) ps row c f w);
    }

pub deleted_kept : (row : List ℕ) → length row ≡ 200 → Kept row (deleted row)
deleted_kept row w = kept deleted_puts row (deleted row) (deleted_is row) refl deleted_fit w

module _ (rec : List ℕ) (e : length rec ≡ 245) where
  pub fresh_wide : (list : List ℕ) → length (fresh_row list rec) ≡ 200
  fresh_wide list = rw (fresh_is list rec) (length-written 200 (fresh_puts list rec) (spaces 200) (fresh_fit rec e list) refl)

  pub key_whole : columns 1 12 (record_key rec) ≡ record_key rec
  key_whole = take_all 12 (record_key rec) (omega (arith, key_length rec e))

  pub fresh_key : (list : List ℕ) → columns 1 12 (fresh_row list rec) ≡ record_key rec
  fresh_key list =
      rw (fresh_is list rec)
      (columns-written 200 1 12 (lit≤ tt) (lit≤ tt) (fresh_puts list rec) (spaces 200) refl (fresh_fit rec e list) refl ∙ key_whole)

  module _ (row : List ℕ) (w : length row ≡ 200) where
    pub recertified_kept : (list : List ℕ) → Kept row (recertified list rec row)
    recertified_kept list =
        kept (recertified_puts list rec) row (recertified list rec row) (recertified_is list rec row) refl (recertified_fit rec e list) w

    pub renamed_kept : Kept row (renamed rec row)
    renamed_kept = kept (renamed_puts rec) row (renamed rec row) (renamed_is rec row) refl (renamed_fit rec e) w

    pub reidentified_kept : Kept row (reidentified rec row)
    reidentified_kept = kept (reidentified_puts rec) row (reidentified rec row) (reidentified_is rec row) refl (reidentified_fit rec e) w

    pub relocated_kept : Kept row (relocated rec row)
    relocated_kept = kept (relocated_puts rec) row (relocated rec row) (relocated_is rec row) refl (relocated_fit rec e) w

    pub amended_kept : Kept row (amended rec row)
    amended_kept = kept (amended_puts rec) row (amended rec row) (amended_is rec row) refl (amended_fit rec e) w

    pub excluded_kept : Kept row (excluded rec row)
    excluded_kept = kept (excluded_puts rec) row (excluded rec row) (excluded_is rec row) refl (excluded_fit rec e) w

    pub paid_kept : Kept row (paid rec row)
    paid_kept = kept (paid_puts rec) row (paid rec row) (paid_is rec row) refl (paid_fit rec e) w

    pub transferred_kept : Kept row (transferred rec row)
    transferred_kept = kept (transferred_puts rec) row (transferred rec row) (transferred_is rec row) refl (transferred_fit rec e) w

    pub readdressed_kept : Kept row (readdressed rec row)
    readdressed_kept = kept (readdressed_puts rec) row (readdressed rec row) (readdressed_is rec row) refl (readdressed_fit rec e) w
