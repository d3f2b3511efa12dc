-- Chart 0-2, control record of the reject file (245 bytes): its columns, each named once. Assumes nothing.
use Rattle.std.specs.Prelude.{ℕ, List}
use Rattle.text.specs.Fields.{columns}

abbrev pub reject_state : List ℕ → List ℕ
reject_state rec = columns 1 2 rec

abbrev pub reject_control : List ℕ → List ℕ
reject_control rec = columns 3 5 rec

abbrev pub tanf_accepted : List ℕ → List ℕ
tanf_accepted rec = columns 6 14 rec

abbrev pub tanf_rejected : List ℕ → List ℕ
tanf_rejected rec = columns 15 23 rec

abbrev pub non_tanf_accepted : List ℕ → List ℕ
non_tanf_accepted rec = columns 24 32 rec

abbrev pub non_tanf_rejected : List ℕ → List ℕ
non_tanf_rejected rec = columns 33 41 rec

abbrev pub tanf_warning : List ℕ → List ℕ
tanf_warning rec = columns 42 50 rec

abbrev pub non_tanf_warning : List ℕ → List ℕ
non_tanf_warning rec = columns 51 59 rec

abbrev pub reject_control_filler : List ℕ → List ℕ
reject_control_filler rec = columns 60 245 rec
