-- Document 02, item 11: C, L, R and M, in that order, each only if its field differs, with key, type, stored last name and that field,
-- else blank. Assumes nothing.
use Rattle.std.specs.Prelude.{ℕ, List, [], ◌∷◌, ◌++◌, Bool, cond}
use Rattle.text.specs.Characters.{C, L, M, R}
use Rattle.text.specs.Fields.{placed, spaces}
use Rattle.casemaster.specs.Row.{row_state, row_ssn, row_case_type, row_local_code, row_case_id, row_last_name, row_arrearage}
use Rattle.exclusionsets.specs.ExclusionText.{exclusion_field}
use Rattle.caserecords.specs.Differences.{is_other_case_id, is_other_local_code, is_other_set, is_other_balance, set_of}

-- key, type and stored last name, else blank
unfoldable pub head_of : ℕ → List ℕ → List ℕ
head_of kind row =
    placed 74 74 (row_case_type row)
    (placed 73 73 (kind ∷ [])
    (placed 30 49 (row_last_name row)
    (placed 6 14 (row_ssn row)
    (placed 1 2 (row_state row)
    (spaces 245)))))

-- and one field
unfoldable pub case_id_record : List ℕ → List ℕ → List ℕ
case_id_record row wanted = placed 15 29 (row_case_id wanted) (head_of C row)

unfoldable pub local_code_record : List ℕ → List ℕ → List ℕ
local_code_record row wanted = placed 3 5 (row_local_code wanted) (head_of L row)

unfoldable pub exclusion_record : List ℕ → List ℕ → List ℕ
exclusion_record row wanted = placed 188 227 (exclusion_field (set_of wanted)) (head_of R row)

unfoldable pub arrearage_record : List ℕ → List ℕ → List ℕ
arrearage_record row wanted = placed 65 72 (row_arrearage wanted) (head_of M row)

-- a record where its field differs
abbrev pub record_if : Bool → List ℕ → List (List ℕ)
record_if differs rec = cond differs (rec ∷ []) []

unfoldable pub records_to : List ℕ → List ℕ → List (List ℕ)
records_to row wanted =
    record_if (is_other_case_id row wanted) (case_id_record row wanted)
    ++ (record_if (is_other_local_code row wanted) (local_code_record row wanted)
    ++ (record_if (is_other_set row wanted) (exclusion_record row wanted)
    ++ record_if (is_other_balance row wanted) (arrearage_record row wanted)))
