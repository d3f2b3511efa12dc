-- Chart A-1, case submission and update record (245 bytes): its columns, each named once. Assumes nothing.
use Rattle.std.specs.Prelude.{ℕ, List}
use Rattle.text.specs.Fields.{columns}

abbrev pub sent_state : List ℕ → List ℕ
sent_state rec = columns 1 2 rec

abbrev pub local_code : List ℕ → List ℕ
local_code rec = columns 3 5 rec

abbrev pub ssn : List ℕ → List ℕ
ssn rec = columns 6 14 rec

abbrev pub case_id : List ℕ → List ℕ
case_id rec = columns 15 29 rec

abbrev pub last_name : List ℕ → List ℕ
last_name rec = columns 30 49 rec

-- the first four columns of the last name
abbrev pub name_front : List ℕ → List ℕ
name_front rec = columns 30 33 rec

abbrev pub first_name : List ℕ → List ℕ
first_name rec = columns 50 64 rec

abbrev pub arrearage : List ℕ → List ℕ
arrearage rec = columns 65 72 rec

abbrev pub transaction_type : List ℕ → List ℕ
transaction_type rec = columns 73 73 rec

abbrev pub case_type : List ℕ → List ℕ
case_type rec = columns 74 74 rec

abbrev pub transfer_state : List ℕ → List ℕ
transfer_state rec = columns 75 76 rec

abbrev pub transfer_local_code : List ℕ → List ℕ
transfer_local_code rec = columns 77 79 rec

abbrev pub process_year : List ℕ → List ℕ
process_year rec = columns 80 83 rec

abbrev pub line1 : List ℕ → List ℕ
line1 rec = columns 84 113 rec

abbrev pub line2 : List ℕ → List ℕ
line2 rec = columns 114 143 rec

abbrev pub city : List ℕ → List ℕ
city rec = columns 144 168 rec

abbrev pub address_state : List ℕ → List ℕ
address_state rec = columns 169 170 rec

abbrev pub zip_code : List ℕ → List ℕ
zip_code rec = columns 171 179 rec

abbrev pub date_issued : List ℕ → List ℕ
date_issued rec = columns 180 187 rec

abbrev pub exclusions : List ℕ → List ℕ
exclusions rec = columns 188 227 rec

abbrev pub filler : List ℕ → List ℕ
filler rec = columns 228 244 rec

abbrev pub request_code : List ℕ → List ℕ
request_code rec = columns 245 245 rec
