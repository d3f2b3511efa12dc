-- Chart 0-7, control record of the reconciliation file (245 bytes): its columns, each named once. Assumes nothing.
use Rattle.std.specs.Prelude.{ℕ, List}
use Rattle.text.specs.Fields.{columns}

abbrev pub rct_identifier : List ℕ → List ℕ
rct_identifier rec = columns 1 3 rec

abbrev pub rct_state : List ℕ → List ℕ
rct_state rec = columns 4 5 rec

abbrev pub rct_tanf : List ℕ → List ℕ
rct_tanf rec = columns 6 14 rec

abbrev pub rct_non_tanf : List ℕ → List ℕ
rct_non_tanf rec = columns 15 23 rec

abbrev pub rct_total : List ℕ → List ℕ
rct_total rec = columns 24 32 rec

abbrev pub rct_date : List ℕ → List ℕ
rct_date rec = columns 33 40 rec

abbrev pub rct_filler : List ℕ → List ℕ
rct_filler rec = columns 41 245 rec
