-- Document 01, "A record's errors": the warnings 51 and 52, which come only without errors. Assumes nothing.
use Rattle.std.specs.Prelude.{ℕ, List, ◌++◌, Bool, false, not, ◌&&◌}
use Rattle.std.proofs.Math.Option.{Option, none, some}
use Rattle.text.specs.Characters.{A}
use Rattle.text.specs.Fields.{same_bytes}
use Rattle.layout.specs.ChartA1.{last_name, first_name}
use Rattle.casemaster.specs.Row.{row_last_name, row_first_name, is_live}
use Rattle.layout.specs.Record.{is_type}
use Rattle.judging.specs.Errors.{is_local_code, code}

-- 51 (A): local code neither blank, 000 nor listed
unfoldable pub warning51 : List ℕ → List ℕ → Bool
warning51 list rec = is_type A rec && not (is_local_code list rec)

-- first or last name differs from a live row's
unfoldable pub is_renamed : Option (List ℕ) → List ℕ → Bool
is_renamed none rec = false
is_renamed (some row) rec =
    is_live row && not (same_bytes (last_name rec) (row_last_name row) && same_bytes (first_name rec) (row_first_name row))

-- 52 (A): first or last name differs from a live row's
unfoldable pub warning52 : Option (List ℕ) → List ℕ → Bool
warning52 row rec = is_type A rec && is_renamed row rec

unfoldable pub warnings : List ℕ → Option (List ℕ) → List ℕ → List ℕ
warnings list row rec = code 51 (warning51 list rec) ++ code 52 (warning52 row rec)
