-- Chart 0-6, reconciliation record (245 bytes): its columns, each named once. Assumes nothing.
use Rattle.std.specs.Prelude.{ℕ, List}
use Rattle.text.specs.Fields.{columns}

abbrev pub rec_identifier : List ℕ → List ℕ
rec_identifier rec = columns 1 3 rec

abbrev pub rec_state : List ℕ → List ℕ
rec_state rec = columns 4 5 rec

abbrev pub rec_local_code : List ℕ → List ℕ
rec_local_code rec = columns 6 8 rec

abbrev pub rec_ssn : List ℕ → List ℕ
rec_ssn rec = columns 9 17 rec

abbrev pub rec_case_id : List ℕ → List ℕ
rec_case_id rec = columns 18 32 rec

abbrev pub rec_last_name : List ℕ → List ℕ
rec_last_name rec = columns 33 52 rec

abbrev pub rec_first_name : List ℕ → List ℕ
rec_first_name rec = columns 53 62 rec

abbrev pub rec_arrearage : List ℕ → List ℕ
rec_arrearage rec = columns 63 70 rec

abbrev pub rec_case_type : List ℕ → List ℕ
rec_case_type rec = columns 71 71 rec

abbrev pub rec_notice_date : List ℕ → List ℕ
rec_notice_date rec = columns 72 79 rec

abbrev pub rec_notice_hold : List ℕ → List ℕ
rec_notice_hold rec = columns 80 80 rec

abbrev pub rec_passport_action : List ℕ → List ℕ
rec_passport_action rec = columns 81 81 rec

abbrev pub rec_exclusions : List ℕ → List ℕ
rec_exclusions rec = columns 82 105 rec

abbrev pub rec_filler : List ℕ → List ℕ
rec_filler rec = columns 106 245 rec
