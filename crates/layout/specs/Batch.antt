-- Document 01, "Applying a batch": details, then the control record, told by its place alone. Assumes nothing.
use Rattle.std.specs.Prelude.{ℕ, ◌-◌, ◌*◌, ◌/◌, List, length, take, drop}
use Rattle.text.specs.Blocks.{blocks}
use Rattle.layout.specs.ChartA2.{control_state}

-- details are all records but the last
abbrev pub detail_count : List ℕ → ℕ
detail_count batch = length batch / 245 - 1

unfoldable pub details_of : List ℕ → List (List ℕ)
details_of batch = blocks 245 (detail_count batch) batch

-- the control record is the last record
unfoldable pub control_of : List ℕ → List ℕ
control_of batch = take 245 (drop (detail_count batch * 245) batch)

-- the submitting state is that in the control record
abbrev pub submitting_state : List ℕ → List ℕ
submitting_state batch = control_state (control_of batch)

-- the record at an index of a batch
abbrev pub record_at : List ℕ → ℕ → List ℕ
record_at batch i = take 245 (drop (i * 245) batch)
