-- Document 01, "A case's row", with document 02, item 6 (cents): the columns of a row, its balance, and when a row is sound, live or
-- deleted. Assumes nothing.
use Rattle.std.specs.Prelude.{ℕ, ◌+◌, ◌*◌, List, [], ◌∷◌, Bool, cond, ◌&&◌, get_or, eqb}
use Rattle.text.specs.Characters.{space, zero_digit, D}
use Rattle.text.specs.Fields.{columns, placed, is_blank, is_zero, all_digits, number}
use Rattle.layout.specs.Name.{is_name, has_letter}
use Rattle.layout.specs.Key.{is_sound_key}

-- a row is 200 bytes
abbrev pub row_width : ℕ
row_width = 200

-- state
abbrev pub row_state : List ℕ → List ℕ
row_state row = columns 1 2 row

-- SSN
abbrev pub row_ssn : List ℕ → List ℕ
row_ssn row = columns 3 11 row

-- case type
abbrev pub row_case_type : List ℕ → List ℕ
row_case_type row = columns 12 12 row

-- the key
abbrev pub row_key : List ℕ → List ℕ
row_key row = columns 1 12 row

-- local code
abbrev pub row_local_code : List ℕ → List ℕ
row_local_code row = columns 13 15 row

-- case ID
abbrev pub row_case_id : List ℕ → List ℕ
row_case_id row = columns 16 30 row

-- last name
abbrev pub row_last_name : List ℕ → List ℕ
row_last_name row = columns 31 50 row

-- the first four columns of the last name
abbrev pub row_name_front : List ℕ → List ℕ
row_name_front row = columns 31 34 row

-- first name
abbrev pub row_first_name : List ℕ → List ℕ
row_first_name row = columns 51 65 row

-- arrearage
abbrev pub row_arrearage : List ℕ → List ℕ
row_arrearage row = columns 66 73 row

-- transfer state
abbrev pub row_transfer_state : List ℕ → List ℕ
row_transfer_state row = columns 74 75 row

-- transfer local code
abbrev pub row_transfer_local_code : List ℕ → List ℕ
row_transfer_local_code row = columns 76 78 row

-- payment year
abbrev pub row_payment_year : List ℕ → List ℕ
row_payment_year row = columns 79 82 row

-- accumulated payment
abbrev pub row_payment : List ℕ → List ℕ
row_payment row = columns 83 90 row

-- address line 1
abbrev pub row_line1 : List ℕ → List ℕ
row_line1 row = columns 91 120 row

-- address line 2
abbrev pub row_line2 : List ℕ → List ℕ
row_line2 row = columns 121 150 row

-- city
abbrev pub row_city : List ℕ → List ℕ
row_city row = columns 151 175 row

-- address state
abbrev pub row_address_state : List ℕ → List ℕ
row_address_state row = columns 176 177 row

-- ZIP
abbrev pub row_zip : List ℕ → List ℕ
row_zip row = columns 178 186 row

-- date issued
abbrev pub row_date_issued : List ℕ → List ℕ
row_date_issued row = columns 187 194 row

-- exclusion set, one binary byte
abbrev pub row_exclusions : List ℕ → List ℕ
row_exclusions row = columns 195 195 row

-- status
abbrev pub row_status : List ℕ → List ℕ
row_status row = columns 196 196 row

-- cents
abbrev pub row_cents : List ℕ → List ℕ
row_cents row = columns 197 198 row

-- spaces
abbrev pub row_filler : List ℕ → List ℕ
row_filler row = columns 199 200 row

-- 00 in the cents
abbrev pub with_zero_cents : List ℕ → List ℕ
with_zero_cents row = placed 197 198 (zero_digit ∷ zero_digit ∷ []) row

-- the balance, in cents: the dollars of the arrearage and the cents beside them
unfoldable pub balance : List ℕ → ℕ
balance row = number (row_arrearage row) * 100 + number (row_cents row)

-- the balance is zero when both parts are
unfoldable pub is_balance_zero : List ℕ → Bool
is_balance_zero row = is_zero (row_arrearage row) && is_zero (row_cents row)

-- status is a space (live) or D (deleted)
unfoldable pub is_live : List ℕ → Bool
is_live row = eqb (get_or (row_status row) 0 0) space

unfoldable pub is_deleted : List ℕ → Bool
is_deleted row = eqb (get_or (row_status row) 0 0) D

-- D exactly when the balance is zero
abbrev pub is_deleted_exactly : Bool → List ℕ → Bool
is_deleted_exactly is_zero_balance row = cond is_zero_balance (is_deleted row) (is_live row)

-- digits in 13–15, 66–73, 79–90, and a last name free of 05 as for type A
unfoldable pub are_fields_sound : List ℕ → Bool
are_fields_sound row =
    all_digits (row_local_code row)
    && (all_digits (row_arrearage row)
    && (all_digits (columns 79 90 row)
    && (is_name (row_name_front row) && has_letter (row_name_front row))))

-- deleted exactly when both parts of the balance are zero, digits in 197–198, and spaces in 199–200
unfoldable pub is_end_sound : List ℕ → Bool
is_end_sound row = is_deleted_exactly (is_balance_zero row) row && (all_digits (row_cents row) && is_blank (row_filler row))

-- a sound row has a key free of errors 01, 02 and 04, such fields and such an end; the other columns are free
unfoldable pub is_sound_row : List ℕ → Bool
is_sound_row row = is_sound_key (row_key row) && (are_fields_sound row && is_end_sound row)

-- ---- the row before it had cents, which the conversion alone reads

-- deleted exactly when the arrearage is zero, and spaces in 197–200
unfoldable pub is_old_end_sound : List ℕ → Bool
is_old_end_sound row = is_deleted_exactly (is_zero (row_arrearage row)) row && is_blank (columns 197 200 row)

unfoldable pub is_sound_old_row : List ℕ → Bool
is_sound_old_row row = is_sound_key (row_key row) && (are_fields_sound row && is_old_end_sound row)
