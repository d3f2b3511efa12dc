-- The records of reconciliation by their columns, as Charts 0-6 and 0-7 name them (proved of them in RecordColumns). Assumes nothing.
use Rattle.std.specs.Prelude.{ℕ, ◌≡◌, List, length, get_or}
use Rattle.text.specs.Characters.{A, N}
use Rattle.text.specs.Fields.{columns, digit_field, spaces}
use Rattle.exclusionsets.specs.Exclusions.{exclusion_columns}
use Rattle.layout.specs.Chart06.{rec_identifier, rec_state, rec_local_code, rec_ssn, rec_case_id, rec_last_name, rec_first_name, rec_arrearage, rec_case_type, rec_notice_date, rec_notice_hold, rec_passport_action, rec_exclusions, rec_filler}
use Rattle.layout.specs.Chart07.{rct_identifier, rct_state, rct_tanf, rct_non_tanf, rct_total, rct_date, rct_filler}
use Rattle.casemaster.specs.Row.{row_state, row_ssn, row_case_type, row_local_code, row_case_id, row_last_name, row_first_name, row_arrearage, row_date_issued, row_exclusions}
use Rattle.reconciliation.specs.Reconcile.{REC, RCT, rec_records, reported_of}

-- the record of a row
pub record IsRecRecord (row rec : List ℕ) : Type 0 where
  pub wide : length rec ≡ 245
  pub identifier : rec_identifier rec ≡ REC
  pub state : rec_state rec ≡ row_state row
  pub local_code : rec_local_code rec ≡ row_local_code row
  pub ssn : rec_ssn rec ≡ row_ssn row
  pub case_id : rec_case_id rec ≡ row_case_id row
  pub last_name : rec_last_name rec ≡ row_last_name row
  pub first_name : rec_first_name rec ≡ columns 1 10 (row_first_name row)
  pub arrearage : rec_arrearage rec ≡ row_arrearage row
  pub case_type : rec_case_type rec ≡ row_case_type row
  pub notice_date : rec_notice_date rec ≡ row_date_issued row
  pub notice_hold : rec_notice_hold rec ≡ spaces 1
  pub passport_action : rec_passport_action rec ≡ spaces 1
  pub exclusions : rec_exclusions rec ≡ exclusion_columns (get_or (row_exclusions row) 0 0)
  pub filler : rec_filler rec ≡ spaces 140

-- the control record of a state, a date and a master's rows
pub record IsRctRecord (state date : List ℕ) (rows : List (List ℕ)) (rec : List ℕ) : Type 0 where
  pub wide : length rec ≡ 245
  pub identifier : rct_identifier rec ≡ RCT
  pub state_is : rct_state rec ≡ state
  pub tanf : rct_tanf rec ≡ digit_field 9 (reported_of A state rows)
  pub non_tanf : rct_non_tanf rec ≡ digit_field 9 (reported_of N state rows)
  pub total : rct_total rec ≡ digit_field 9 (length (rec_records state rows))
  pub date_is : rct_date rec ≡ date
  pub filler : rct_filler rec ≡ spaces 205
