-- Laws of the limit: the only place that computes with the number. Assumes nothing.
use mathlib.Core.Path.{◌≡◌, refl}
use Prim.Native.Nat.{◌+◌, ◌^◌, ◌≤◌, ◌<◌}
use lib.Dec.{lit≤}
use Rattle.layout.specs.Limits.{max_rows}

-- the code's MAX_ROWS and MAX_RECORDS are the definition's limit and one more
pub max_rows_lem : max_rows ≡ 16777215
unfolding max_rows
max_rows_lem = refl

pub max_records : max_rows + 1 ≡ 16777216
unfolding max_rows
max_records = refl

-- as many records as the limit allows can be counted, and their amounts added up, in 64 bits
pub few_records : max_rows + 1 ≤ 2 ^ 32
unfolding max_rows
few_records = lit≤ tt

-- a detail's index has 24 bits
pub few_details : max_rows + 1 ≤ 2 ^ 24
unfolding max_rows
few_details = lit≤ tt

-- a number in a list of lines or contact records has 32
pub list_number : max_rows < 2 ^ 32
unfolding max_rows
list_number = lit≤ tt

-- and a number in a journal has at most four groups of seven
pub few_groups : max_rows < 128 ^ 4
unfolding max_rows
few_groups = lit≤ tt
