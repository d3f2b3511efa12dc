-- Chart 0-1, reject record (245 bytes), whose columns 1–227 are those of Chart A-1; the others, each named once. Assumes nothing.
use Rattle.std.specs.Prelude.{ℕ, List}
use Rattle.text.specs.Fields.{columns}

abbrev pub as_sent : List ℕ → List ℕ
as_sent rec = columns 1 227 rec

abbrev pub error_codes : List ℕ → List ℕ
error_codes rec = columns 228 239 rec

abbrev pub reject_name : List ℕ → List ℕ
reject_name rec = columns 240 243 rec

abbrev pub reject_filler : List ℕ → List ℕ
reject_filler rec = columns 244 244 rec

abbrev pub reject_request_code : List ℕ → List ℕ
reject_request_code rec = columns 245 245 rec
