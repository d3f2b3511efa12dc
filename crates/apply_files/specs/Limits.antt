-- Document 01, "The printed line": the space of apply-batch, and `refused 0`. Assumes nothing.
use Rattle.std.specs.Prelude.{ℕ, ◌+◌, ◌*◌, Bool, true, false, ◌||◌, ltb}
use Rattle.std.proofs.Math.Option.{Option, none, some}
use Rattle.std.specs.Prelude.{Some, None}
use Rattle.std.specs.Prelude as Code

-- space for 100 details, 200 rows and 1,000 codes, in bytes; a batch has the control record besides
abbrev pub master_space : ℕ
master_space = 200 * 200

abbrev pub batch_space : ℕ
batch_space = 245 * (100 + 1)

abbrev pub locals_space : ℕ
locals_space = 3 * 1000

-- a file's size; none for one that is missing or can't be read
abbrev pub size_of : Code.Option ℕ → Option ℕ
size_of None = none
size_of (Some n) = some n

abbrev pub is_missing_file : Option ℕ → Bool
is_missing_file none = true
is_missing_file (some n) = false

-- missing or beyond the space
abbrev pub is_beyond : ℕ → Option ℕ → Bool
is_beyond space none = true
is_beyond space (some n) = ltb space n

-- `refused 0`, of the four files' sizes
unfoldable pub refusal0 : (master batch locals year : Option ℕ) → Bool
refusal0 master batch locals year =
    is_beyond master_space master || (is_beyond batch_space batch || (is_beyond locals_space locals || is_missing_file year))
