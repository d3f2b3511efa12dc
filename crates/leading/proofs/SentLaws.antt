-- A record with a row's key, a type and the row's last name, and one field besides: its columns. Assumes nothing.
use Prim.Native.Nat.{ℕ, ◌+◌, ◌≤◌}
use mathlib.Core.Path.{◌≡◌, refl, sym, ap, ◌∙◌}
use mathlib.Core.List.{List, [], ◌∷◌, ◌++◌}
use mathlib.Core.Bool.{Bool, true, false, ◌&&◌}
use native.Mathlib.Omega.{arith}
use lib.Dec.{lit≤}
use lib.ListN.{length, get_or}
use lib.Seq.{take_all}
use Rattle.text.specs.Fields.{columns, placed, is_blank, spaces}
use Rattle.text.proofs.FieldsLaws.{and_left, and_right, one_column}
use Rattle.text.proofs.ColumnsLaws.{columns_of-columns, columns_split, Put, put, written, length-written, columns-written, is_free, columns_free, Fits, AllFit, fits-columns}
use Rattle.casemaster.specs.Row.{row_key, row_state, row_ssn, row_case_type, row_last_name}
use Rattle.caserecords.specs.Records.{head_of}
use Rattle.onecase.proofs.OwnRecordLaws.{Sent}
use Rattle.leading.proofs.RowPartsLaws.{row_width_lem}

-- ---- its columns

abbrev head_puts : ℕ → List ℕ → List Put
head_puts kind row =
    put 74 74 (row_case_type row) ∷ put 73 73 (kind ∷ []) ∷ put 30 49 (row_last_name row) ∷ put 6 14 (row_ssn row) ∷ put 1 2 (row_state row) ∷ []

module _ (kind : ℕ) (row : List ℕ) (w : length row ≡ 200) where
  head_is : head_of kind row ≡ written (head_puts kind row) (spaces 245)
  unfolding head_of
  head_is = refl

  head_fit : AllFit 245 (head_puts kind row)
  head_fit = (
    fits-columns 245 74 74 200 12 12 false row w refl,
    (
      record { low = lit≤ tt; wide = refl; high = lit≤ tt },
      (
        fits-columns 245 30 49 200 31 50 false row w refl,
        (fits-columns 245 6 14 200 3 11 false row w refl, (fits-columns 245 1 2 200 1 2 false row w refl, tt)),
      ),
    ),
  )

  pub head_wide : length (head_of kind row) ≡ 245
  head_wide = rw head_is (length-written 245 (head_puts kind row) (spaces 245) head_fit refl)

  head_state : columns 1 2 (head_of kind row) ≡ columns 1 2 row
  head_state =
      rw head_is
      (columns-written 245 1 2 (lit≤ tt) (lit≤ tt) (head_puts kind row) (spaces 245) refl head_fit refl
      ∙ take_all 2 (columns 1 2 row) (omega (arith, row_width_lem row 1 2 w (lit≤ tt) (lit≤ tt) (lit≤ tt))))

  head_ssn : columns 6 14 (head_of kind row) ≡ columns 3 11 row
  head_ssn =
      rw head_is
      (columns-written 245 6 14 (lit≤ tt) (lit≤ tt) (head_puts kind row) (spaces 245) refl head_fit refl
      ∙ take_all 9 (columns 3 11 row) (omega (arith, row_width_lem row 3 11 w (lit≤ tt) (lit≤ tt) (lit≤ tt))))

  head_case_type : columns 74 74 (head_of kind row) ≡ columns 12 12 row
  head_case_type =
      rw head_is
      (columns-written 245 74 74 (lit≤ tt) (lit≤ tt) (head_puts kind row) (spaces 245) refl head_fit refl
      ∙ take_all 1 (columns 12 12 row) (omega (arith, row_width_lem row 12 12 w (lit≤ tt) (lit≤ tt) (lit≤ tt))))

  head_type : columns 73 73 (head_of kind row) ≡ kind ∷ []
  head_type = rw head_is (columns-written 245 73 73 (lit≤ tt) (lit≤ tt) (head_puts kind row) (spaces 245) refl head_fit refl)

  head_name : columns 30 33 (head_of kind row) ≡ columns 31 34 row
  head_name =
      rw head_is
      (columns-written 245 30 33 (lit≤ tt) (lit≤ tt) (head_puts kind row) (spaces 245) refl head_fit refl
      ∙ columns_of-columns 31 50 1 4 row (lit≤ tt) (lit≤ tt) (lit≤ tt) (lit≤ tt))

  head_filler : columns 228 244 (head_of kind row) ≡ spaces 17
  head_filler = rw head_is (columns-written 245 228 244 (lit≤ tt) (lit≤ tt) (head_puts kind row) (spaces 245) refl head_fit refl)

key_in_parts : (row : List ℕ) → row_key row ≡ columns 1 2 row ++ columns 3 11 row ++ columns 12 12 row
key_in_parts row = columns_split 1 11 12 row (lit≤ tt) (lit≤ tt) (lit≤ tt) ∙ rw (columns_split 1 2 11 row (lit≤ tt) (lit≤ tt) (lit≤ tt))

-- a field that stands beside all of these
abbrev pub is_beside : ℕ → ℕ → Bool
is_beside first last =
    is_free 1 2 (put first last [] ∷ [])
    && (is_free 6 14 (put first last [] ∷ [])
    && (is_free 74 74 (put first last [] ∷ [])
    && (is_free 73 73 (put first last [] ∷ [])
    && (is_free 30 33 (put first last [] ∷ []) && is_free 228 244 (put first last [] ∷ [])))))

module _ (kind first last : ℕ) (field row : List ℕ) (w : length row ≡ 200) (f : Fits 245 (put first last field)) where
  beside : (a z : ℕ) → 1 ≤ a → a ≤ z + 1 → is_free a z (put first last [] ∷ []) ≡ true
      → columns a z (placed first last field (head_of kind row)) ≡ columns a z (head_of kind row)
  beside a z l o t = columns_free 245 a z l o (put first last field ∷ []) (head_of kind row) t (f, tt) (head_wide kind row w)

  pub sent : is_beside first last ≡ true → Sent kind row (placed first last field (head_of kind row))
  unfolding is_blank
  sent t1 =
      let p = put first last [] ∷ [] in
      let t2 = and_right (is_free 1 2 p) _ t1 in
      let t3 = and_right (is_free 6 14 p) _ t2 in
      let t4 = and_right (is_free 74 74 p) _ t3 in
      let t5 = and_right (is_free 73 73 p) _ t4 in
      let e1 = beside 1 2 (lit≤ tt) (lit≤ tt) (and_left (is_free 1 2 p) _ t1) ∙ head_state kind row w in
      let e2 = beside 6 14 (lit≤ tt) (lit≤ tt) (and_left (is_free 6 14 p) _ t2) ∙ head_ssn kind row w in
      let e3 = beside 74 74 (lit≤ tt) (lit≤ tt) (and_left (is_free 74 74 p) _ t3) ∙ head_case_type kind row w in
      let e4 = beside 73 73 (lit≤ tt) (lit≤ tt) (and_left (is_free 73 73 p) _ t4) ∙ head_type kind row w in
      let e5 = beside 30 33 (lit≤ tt) (lit≤ tt) (and_left (is_free 30 33 p) _ t5) ∙ head_name kind row w in
      let e6 = beside 228 244 (lit≤ tt) (lit≤ tt) (and_right (is_free 30 33 p) _ t5) ∙ head_filler kind row w in
      let rec : List ℕ = placed first last field (head_of kind row) in
      record {
        wide = length-written 245 (put first last field ∷ []) (head_of kind row) (f, tt) (head_wide kind row w);
        type_is = sym (one_column 73 rec (lit≤ tt)) ∙ ap (λ (x : List ℕ). get_or x 0 0) e4;
        key_is = rw (e1, e2, e3) (sym (key_in_parts row));
        name_is = e5;
        filler-blank = rw e6;
      }
