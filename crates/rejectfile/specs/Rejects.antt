-- Document 01, "Applying a batch": the verdict list's numbers and the reject records of Chart 0-1. Assumes nothing.
use Rattle.std.specs.Prelude.{ℕ, ◌≡◌, List, [], ◌∷◌, ◌++◌, map, length}
use Rattle.std.proofs.Math.Option.{Option, none, some}
use Rattle.text.specs.Fields.{columns, spaces}
use Rattle.layout.specs.Chart01.{as_sent, error_codes, reject_name, reject_filler, reject_request_code}
use Rattle.layout.specs.Codes.{number_of_codes, six_lowest}
use Rattle.onecase.specs.Verdict.{Judgement}

-- a 64-bit number per detail: the sum of 2 to the power c over the codes c of its set
abbrev pub number_of : Judgement → ℕ
number_of verdict = number_of_codes verdict.codes

unfoldable pub numbers : List Judgement → List ℕ
numbers verdicts = map number_of verdicts

-- the four characters of 17; unused places are spaces
abbrev pub four_columns : Option (List ℕ) → List ℕ
four_columns none = spaces 4
four_columns (some name) = name

-- the reject record of Chart 0-1, field behind field
unfoldable pub reject_record : List ℕ → Judgement → List ℕ
reject_record detail verdict =
    columns 1 227 detail ++ six_lowest verdict.codes ++ four_columns verdict.name ++ spaces 1 ++ columns 245 245 detail

-- the same by its columns (proved of it in RejectColumns): the detail's own, the six lowest codes rising, the four characters of 17, a
-- space
pub record IsRejectRecord (detail : List ℕ) (verdict : Judgement) (rec : List ℕ) : Type 0 where
  pub wide : length rec ≡ 245
  pub as_sent : as_sent rec ≡ as_sent detail
  pub codes_are : error_codes rec ≡ six_lowest verdict.codes
  pub name_is : reject_name rec ≡ four_columns verdict.name
  pub filler_is : reject_filler rec ≡ spaces 1
  pub request_code : reject_request_code rec ≡ reject_request_code detail

-- only for a detail with a code
abbrev pub if_any : List ℕ → List ℕ → List (List ℕ)
if_any [] reject = []
if_any (c ∷ cs) reject = reject ∷ []

-- for each detail with a code, in batch order
unfoldable pub reject_records : List (List ℕ) → List Judgement → List (List ℕ)
reject_records [] verdicts = []
reject_records (detail ∷ details) [] = []
reject_records (detail ∷ details) (verdict ∷ verdicts) =
    if_any verdict.codes (reject_record detail verdict) ++ reject_records details verdicts
