-- Document 01, "One-case machine": its state is one row or none, for one key. Assumes nothing.
use Rattle.std.specs.Prelude.{ℕ, List, Bool, cond}
use Rattle.std.proofs.Math.Option.{Option, none, some}
use Rattle.std.specs.Prelude.{Some, None}
use Rattle.std.specs.Prelude as Code
use Rattle.std.specs.Option.{option_copied}
use Rattle.std.specs.Borrow.{Bor}

-- the code's option
abbrev pub option_of : Code.Option (List ℕ) → Option (List ℕ)
option_of None = none
option_of (Some row) = some row

-- and of a row that is lent
abbrev pub row_in : Code.Option (Bor (List ℕ)) → Option (List ℕ)
row_in row = option_of (option_copied row)

-- the machine's state is one row or none, as a flag and a row
abbrev pub row_if : Bool → List ℕ → Option (List ℕ)
row_if held row = cond held (some row) none
