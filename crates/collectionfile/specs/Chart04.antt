-- Chart 0-4, collection and adjustment record (240 bytes): the columns that posting reads, each named once. Assumes nothing.
use Rattle.std.specs.Prelude.{ℕ, List}
use Rattle.text.specs.Fields.{columns}

-- a line is 240 bytes
abbrev pub line_width : ℕ
line_width = 240

abbrev pub line_state : List ℕ → List ℕ
line_state line = columns 1 2 line

abbrev pub line_ssn : List ℕ → List ℕ
line_ssn line = columns 6 14 line

abbrev pub line_collection : List ℕ → List ℕ
line_collection line = columns 76 86 line

abbrev pub line_adjustment : List ℕ → List ℕ
line_adjustment line = columns 87 97 line

abbrev pub line_case_type : List ℕ → List ℕ
line_case_type line = columns 107 107 line
