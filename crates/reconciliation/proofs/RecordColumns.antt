-- The columns of Charts 0-6 and 0-7 in the records of reconciliation: the fields stand one behind the other, so each stands in the
-- columns behind the widths of those before it. Assumes nothing.
use Prim.Native.Nat.{ℕ, ◌+◌, ◌-◌, ◌≤◌}
use mathlib.Core.Path.{◌≡◌, refl, sym, ap, ◌∙◌}
use mathlib.Core.List.{List, [], ◌∷◌, map}
use native.Mathlib.Omega.{arith}
use lib.Dec.{lit≤}
use lib.ListN.{length, get_or}
use Rattle.text.specs.Characters.{A, N}
use Rattle.text.specs.Fields.{columns, digit_field, spaces}
use Rattle.exclusionsets.specs.Exclusions.{exclusion_columns}
use Rattle.casemaster.specs.Row.{row_state, row_ssn, row_case_type, row_local_code, row_case_id, row_last_name, row_arrearage, row_date_issued, row_exclusions}
use Rattle.casemaster.proofs.SoundLaws.{row-columns}
use Rattle.reconciliation.specs.Reconcile.{REC, RCT, rec_record, rec_records, reported_of, rct_record}
use Rattle.reconciliation.specs.Columns.{IsRecRecord, IsRctRecord}
use Rattle.text.proofs.ColumnsLaws.{columns_of-columns}
use Rattle.text.proofs.NumberLaws.{length_digits}
use Rattle.text.proofs.PartsLaws.{columns-appended, length-appended}
use Rattle.exclusionsets.proofs.ExclusionsLaws.{columns-length}

module _ (row : List ℕ) (wide : length row ≡ 200) where
  -- the fields behind the first
  abbrev rec_others : List (List ℕ)
  rec_others =
      row_state row ∷ row_local_code row ∷ row_ssn row ∷ row_case_id row ∷ row_last_name row ∷ columns 51 60 row ∷ row_arrearage row
      ∷ row_case_type row ∷ row_date_issued row ∷ spaces 2 ∷ exclusion_columns (get_or (row_exclusions row) 0 0) ∷ spaces 140 ∷ []

  abbrev rec_widths : List ℕ
  rec_widths = 3 ∷ 2 ∷ 3 ∷ 9 ∷ 15 ∷ 20 ∷ 10 ∷ 8 ∷ 1 ∷ 8 ∷ 2 ∷ 24 ∷ 140 ∷ []

  rec_widths_lem : map length (REC ∷ rec_others) ≡ rec_widths
  rec_widths_lem =
      rw (
        row-columns row wide 1 2 (lit≤ tt) (lit≤ tt) (lit≤ tt),
        row-columns row wide 13 15 (lit≤ tt) (lit≤ tt) (lit≤ tt),
        row-columns row wide 3 11 (lit≤ tt) (lit≤ tt) (lit≤ tt),
        row-columns row wide 16 30 (lit≤ tt) (lit≤ tt) (lit≤ tt),
        row-columns row wide 31 50 (lit≤ tt) (lit≤ tt) (lit≤ tt),
        row-columns row wide 51 60 (lit≤ tt) (lit≤ tt) (lit≤ tt),
        row-columns row wide 66 73 (lit≤ tt) (lit≤ tt) (lit≤ tt),
        row-columns row wide 12 12 (lit≤ tt) (lit≤ tt) (lit≤ tt),
        row-columns row wide 187 194 (lit≤ tt) (lit≤ tt) (lit≤ tt),
        columns-length (get_or (row_exclusions row) 0 0),
      )
      refl

  pub rec_columns : IsRecRecord row (rec_record row)
  unfolding rec_record
  rec_columns =
      let at = columns-appended rec_widths REC rec_others rec_widths_lem in
      -- 80 and 81 are each a part of the two spaces
      let part : (i : ℕ) → 1 ≤ i → i ≤ 2 → columns i i (columns 80 81 (rec_record row)) ≡ columns (80 + i - 1) (80 + i - 1) (rec_record row) =
      λ i l h. columns_of-columns 80 81 i i (rec_record row) (lit≤ tt) l (omega arith) (omega arith) in
      record {
        wide = length-appended rec_widths REC rec_others rec_widths_lem;
        identifier = at 0;
        state = at 1;
        local_code = at 2;
        ssn = at 3;
        case_id = at 4;
        last_name = at 5;
        first_name = at 6 ∙ sym (columns_of-columns 51 65 1 10 row (lit≤ tt) (lit≤ tt) (lit≤ tt) (lit≤ tt));
        arrearage = at 7;
        case_type = at 8;
        notice_date = at 9;
        notice_hold = sym (part 1 (lit≤ tt) (lit≤ tt)) ∙ ap (columns 1 1) (at 10);
        passport_action = sym (part 2 (lit≤ tt) (lit≤ tt)) ∙ ap (columns 2 2) (at 10);
        exclusions = at 11;
        filler = at 12;
      }

pub rct_columns : (state date : List ℕ) (rows : List (List ℕ)) → length state ≡ 2 → length date ≡ 8
    → IsRctRecord state date rows (rct_record state date rows)
unfolding rct_record
rct_columns state date rows two eight =
    let others : List (List ℕ) =
    state ∷ digit_field 9 (reported_of A state rows) ∷ digit_field 9 (reported_of N state rows)
    ∷ digit_field 9 (length (rec_records state rows)) ∷ date ∷ spaces 205 ∷ [] in
    let widths : map length (RCT ∷ others) ≡ 3 ∷ 2 ∷ 9 ∷ 9 ∷ 9 ∷ 8 ∷ 205 ∷ [] =
    rw (
      two,
      length_digits 9 (reported_of A state rows),
      length_digits 9 (reported_of N state rows),
      length_digits 9 (length (rec_records state rows)),
      eight,
    )
    refl in
    let at = columns-appended (3 ∷ 2 ∷ 9 ∷ 9 ∷ 9 ∷ 8 ∷ 205 ∷ []) RCT others widths in
    record {
      wide = length-appended (3 ∷ 2 ∷ 9 ∷ 9 ∷ 9 ∷ 8 ∷ 205 ∷ []) RCT others widths;
      identifier = at 0;
      state_is = at 1;
      tanf = at 2;
      non_tanf = at 3;
      total = at 4;
      date_is = at 5;
      filler = at 6;
    }
