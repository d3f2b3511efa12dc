-- For the contracts of inner functions; no rule of the papers stands here.
-- The three parts in which a REC record is written. Assumes nothing.
use Rattle.std.specs.Prelude.{ℕ, List, get_or}
use Rattle.text.specs.Fields.{columns, placed, spaces}
use Rattle.exclusionsets.specs.Exclusions.{exclusion_columns}
use Rattle.casemaster.specs.Row.{row_state, row_ssn, row_case_type, row_local_code, row_case_id, row_last_name, row_arrearage, row_date_issued, row_exclusions}
use Rattle.reconciliation.specs.Reconcile.{REC}

-- columns 1 to 32: REC, and the row's state, local code, SSN and case ID
abbrev pub with_identity : List ℕ → List ℕ → List ℕ
with_identity row rec =
    placed 18 32 (row_case_id row)
    (placed 9 17 (row_ssn row)
    (placed 6 8 (row_local_code row)
    (placed 4 5 (row_state row)
    (placed 1 3 REC rec))))

-- columns 33 to 79: its names, the first cut to ten, arrearage, case type and date
abbrev pub with_case : List ℕ → List ℕ → List ℕ
with_case row rec =
    placed 72 79 (row_date_issued row)
    (placed 71 71 (row_case_type row)
    (placed 63 70 (row_arrearage row)
    (placed 53 62 (columns 51 60 row)
    (placed 33 52 (row_last_name row) rec))))

-- columns 80 to 245: spaces but for its exclusions
abbrev pub with_end : List ℕ → List ℕ → List ℕ
with_end row rec = placed 106 245 (spaces 140) (placed 82 105 (exclusion_columns (get_or (row_exclusions row) 0 0)) (placed 80 81 (spaces 2) rec))
