-- Chart A-3, state/local contact phone and address record (220 bytes): its columns, each named once. Assumes nothing.
use Rattle.std.specs.Prelude.{ℕ, List}
use Rattle.text.specs.Fields.{columns}

-- a record is 220 bytes
abbrev pub contact_width : ℕ
contact_width = 220

abbrev pub contact_state : List ℕ → List ℕ
contact_state rec = columns 1 2 rec

abbrev pub contact_code : List ℕ → List ℕ
contact_code rec = columns 3 5 rec

abbrev pub telephone1 : List ℕ → List ℕ
telephone1 rec = columns 6 19 rec

abbrev pub extension1 : List ℕ → List ℕ
extension1 rec = columns 20 23 rec

abbrev pub telephone2 : List ℕ → List ℕ
telephone2 rec = columns 24 37 rec

abbrev pub extension2 : List ℕ → List ℕ
extension2 rec = columns 38 41 rec

abbrev pub agency_name : List ℕ → List ℕ
agency_name rec = columns 42 76 rec

abbrev pub contact_line1 : List ℕ → List ℕ
contact_line1 rec = columns 77 111 rec

abbrev pub contact_line2 : List ℕ → List ℕ
contact_line2 rec = columns 112 146 rec

abbrev pub contact_line3 : List ℕ → List ℕ
contact_line3 rec = columns 147 181 rec

abbrev pub contact_line4 : List ℕ → List ℕ
contact_line4 rec = columns 182 216 rec

abbrev pub contact_filler : List ℕ → List ℕ
contact_filler rec = columns 217 220 rec

-- a record's key, sound or not
abbrev pub contact_key : List ℕ → List ℕ
contact_key rec = columns 1 5 rec
