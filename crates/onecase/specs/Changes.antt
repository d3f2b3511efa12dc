-- Document 01, "One-case machine": what a record without an error does to its row, type by type; document 02, item 6: A, D and M set the
-- cents to 00. Assumes nothing.
use Rattle.std.specs.Prelude.{ℕ, List, [], ◌∷◌, Bool, not, cond, replicate}
use Rattle.text.specs.Options.{or_zero}
use Rattle.text.specs.Characters.{zero_digit, D}
use Rattle.text.specs.Fields.{columns, placed, is_blank, is_zero, spaces}
use Rattle.exclusionsets.specs.Exclusions.{exclusions_of}
use Rattle.layout.specs.Locals.{zero_local_code, is_listed}
use Rattle.layout.specs.ChartA1.{local_code, case_id, last_name, first_name, arrearage, transfer_state, transfer_local_code, process_year, date_issued, exclusions}
use Rattle.layout.specs.Record.{record_key}
use Rattle.casemaster.specs.Row.{with_zero_cents}

abbrev pub zeros : ℕ → List ℕ
zeros n = replicate n zero_digit

-- the five address fields, columns 84–179 of the record and 91–186 of the row
abbrev pub address : List ℕ → List ℕ
address rec = columns 84 179 rec

-- the exclusion set as one byte; without error 16 there is one
unfoldable pub exclusion_byte : List ℕ → List ℕ
exclusion_byte rec = or_zero (exclusions_of (exclusions rec)) ∷ []

-- A, local code in both cases: as sent if listed, else 000
unfoldable pub added_local_code : List ℕ → List ℕ → List ℕ
added_local_code list rec = cond (is_listed (local_code rec) list) (local_code rec) zero_local_code

-- f in columns first to last, unless the condition holds
abbrev pub placed_unless : Bool → ℕ → ℕ → List ℕ → List ℕ → List ℕ
placed_unless keep first last f row = cond keep row (placed first last f row)

-- A with no row, or a deleted one: a fresh row of key, both names, arrearage, case ID, address, date, exclusions; transfer fields
-- blank, payment fields zeros, live
unfoldable pub fresh_row : List ℕ → List ℕ → List ℕ
fresh_row list rec =
    placed 1 12 (record_key rec)
    (placed 13 15 (added_local_code list rec)
    (placed 16 30 (case_id rec)
    (placed 31 50 (last_name rec)
    (placed 51 65 (first_name rec)
    (placed 66 73 (arrearage rec)
    (placed 79 90 (zeros 12)
    (placed 91 186 (address rec)
    (placed 187 194 (date_issued rec)
    (placed 195 195 (exclusion_byte rec)
    (with_zero_cents (spaces 200)))))))))))

-- A on a live row: names, arrearage and exclusions replaced; case ID and date replaced unless blank; all five address fields replaced
-- unless all five are blank; the rest kept
unfoldable pub recertified : List ℕ → List ℕ → List ℕ → List ℕ
recertified list rec row =
    placed 13 15 (added_local_code list rec)
    (placed_unless (is_blank (case_id rec)) 16 30 (case_id rec)
    (placed 31 50 (last_name rec)
    (placed 51 65 (first_name rec)
    (placed 66 73 (arrearage rec)
    (placed_unless (is_blank (address rec)) 91 186 (address rec)
    (placed_unless (is_blank (date_issued rec)) 187 194 (date_issued rec)
    (placed 195 195 (exclusion_byte rec)
    (with_zero_cents row))))))))

-- B: both names
unfoldable pub renamed : List ℕ → List ℕ → List ℕ
renamed rec row = placed 51 65 (first_name rec) (placed 31 50 (last_name rec) row)

-- C: case ID
unfoldable pub reidentified : List ℕ → List ℕ → List ℕ
reidentified rec row = placed 16 30 (case_id rec) row

-- D: arrearage zero, deleted
unfoldable pub deleted : List ℕ → List ℕ
deleted row = placed 196 196 (D ∷ []) (placed 66 73 (zeros 8) (with_zero_cents row))

-- L: local code, blank becoming 000
unfoldable pub relocated : List ℕ → List ℕ → List ℕ
relocated rec row = placed 13 15 (cond (is_blank (local_code rec)) zero_local_code (local_code rec)) row

-- M: arrearage; zero also deletes
unfoldable pub amended : List ℕ → List ℕ → List ℕ
amended rec row =
    placed_unless (not (is_zero (arrearage rec))) 196 196 (D ∷ []) (placed 66 73 (arrearage rec) (with_zero_cents row))

-- R: the set; blank empties it
unfoldable pub excluded : List ℕ → List ℕ → List ℕ
excluded rec row = placed 195 195 (exclusion_byte rec) row

-- S: payment year and amount replaced; arrearage kept
unfoldable pub paid : List ℕ → List ℕ → List ℕ
paid rec row = placed 83 90 (arrearage rec) (placed 79 82 (process_year rec) row)

-- T: transfer state; transfer local code (77–79) unless blank
unfoldable pub transferred : List ℕ → List ℕ → List ℕ
transferred rec row =
    placed_unless (is_blank (transfer_local_code rec)) 76 78 (transfer_local_code rec) (placed 74 75 (transfer_state rec) row)

-- Z: the address
unfoldable pub readdressed : List ℕ → List ℕ → List ℕ
readdressed rec row = placed 91 186 (address rec) row
