-- Document 02, item 11: what differs between a row and a wanted row, and refusal 29 as a test. That the test holds exactly if no list of C, L,
-- R and M records of the key leads there, the paper's sentence, is `EveryPair` of crate `leading`. Assumes nothing.
use Rattle.std.specs.Prelude.{ℕ, List, Bool, not, ◌&&◌, ◌||◌, get_or}
use Rattle.text.specs.Fields.{columns, is_blank, is_zero, same_bytes}
use Rattle.layout.specs.Locals.{zero_local_code, is_listed}
use Rattle.casemaster.specs.Row.{row_local_code, row_case_id, row_exclusions, row_cents, is_live}
use Rattle.exclusionsets.specs.ExclusionText.{is_widened}

-- the columns first to last differ
abbrev pub is_other : ℕ → ℕ → List ℕ → List ℕ → Bool
is_other first last row wanted = not (same_bytes (columns first last row) (columns first last wanted))

-- C: the case ID differs
unfoldable pub is_other_case_id : List ℕ → List ℕ → Bool
is_other_case_id row wanted = is_other 16 30 row wanted

-- L: the local code differs
unfoldable pub is_other_local_code : List ℕ → List ℕ → Bool
is_other_local_code row wanted = is_other 13 15 row wanted

-- R: the set differs
unfoldable pub is_other_set : List ℕ → List ℕ → Bool
is_other_set row wanted = is_other 195 195 row wanted

-- M: the arrearage or the cents differ
unfoldable pub is_other_balance : List ℕ → List ℕ → Bool
is_other_balance row wanted = is_other 66 73 row wanted || is_other 197 198 row wanted

-- a byte other than case ID, local code, set, arrearage, cents and status differs
unfoldable pub is_other_elsewhere : List ℕ → List ℕ → Bool
is_other_elsewhere row wanted =
    is_other 1 12 row wanted || is_other 31 65 row wanted || is_other 74 194 row wanted || is_other 199 200 row wanted

-- 000 or listed
unfoldable pub is_zero_or_listed : List ℕ → List ℕ → Bool
is_zero_or_listed list code = same_bytes code zero_local_code || is_listed code list

-- the exclusion set of a row as a number
abbrev pub set_of : List ℕ → ℕ
set_of row = get_or (row_exclusions row) 0 0

-- something that differs can't be changed by C, L, R and M
unfoldable pub is_barred : List ℕ → List ℕ → List ℕ → Bool
is_barred row wanted list =
    not (is_live row)
    || is_other_elsewhere row wanted
    || is_other_case_id row wanted && is_blank (row_case_id wanted)
    || is_other_local_code row wanted && not (is_zero_or_listed list (row_local_code wanted))
    || is_other_set row wanted && not (is_widened (set_of wanted))
    || is_other_balance row wanted && not (is_zero (row_cents wanted))

-- 29, as a test: the rows differ, and something that differs can't be changed so
unfoldable pub refusal29 : List ℕ → List ℕ → List ℕ → Bool
refusal29 row wanted list = not (same_bytes row wanted) && is_barred row wanted list
