-- Chart 0-5, collection and adjustment control record (240 bytes): the columns that posting reads, each named once. Assumes nothing.
use Rattle.std.specs.Prelude.{ℕ, List}
use Rattle.text.specs.Fields.{columns}

abbrev pub last_control : List ℕ → List ℕ
last_control last = columns 6 14 last

abbrev pub last_adjustments : List ℕ → List ℕ
last_adjustments last = columns 35 49 last

abbrev pub last_collections : List ℕ → List ℕ
last_collections last = columns 50 64 last
