-- Chart A-2, control record of a batch (245 bytes): its columns, each named once. Assumes nothing.
use Rattle.std.specs.Prelude.{ℕ, List}
use Rattle.text.specs.Fields.{columns}

abbrev pub control_state : List ℕ → List ℕ
control_state rec = columns 1 2 rec

abbrev pub control : List ℕ → List ℕ
control rec = columns 3 5 rec

abbrev pub total_tanf : List ℕ → List ℕ
total_tanf rec = columns 6 14 rec

abbrev pub total_non_tanf : List ℕ → List ℕ
total_non_tanf rec = columns 15 23 rec

abbrev pub amount_tanf : List ℕ → List ℕ
amount_tanf rec = columns 24 34 rec

abbrev pub amount_non_tanf : List ℕ → List ℕ
amount_non_tanf rec = columns 35 45 rec

abbrev pub control_filler : List ℕ → List ℕ
control_filler rec = columns 46 245 rec
