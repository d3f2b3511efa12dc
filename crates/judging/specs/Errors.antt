-- Document 01, "A record's errors": the codes 01 to 18, each as printed, and which are judged together; 17 as document 02, item 3, has it.
-- The row is the one with the record's key, or none. Assumes nothing.
use Rattle.std.specs.Prelude.{ℕ, List, [], ◌∷◌, ◌++◌, Bool, false, not, cond, ◌&&◌, ◌||◌, ltb}
use Rattle.std.proofs.Math.Option.{Option, none, some}
use Rattle.text.specs.Characters.{is_letter, A, B, C, L, M, R, S, letter_t, Z}
use Rattle.text.specs.Options.{is_none}
use Rattle.text.specs.Fields.{is_blank, are_digits, number, same_bytes, is_one_of}
use Rattle.layout.specs.States.{is_state}
use Rattle.layout.specs.Ssn.{wrong_ssn}
use Rattle.layout.specs.Name.{is_name, has_letter}
use Rattle.layout.specs.Zip.{is_zip}
use Rattle.dates.specs.Calendar.{is_date}
use Rattle.layout.specs.ProcessYear.{in_window}
use Rattle.exclusionsets.specs.Exclusions.{exclusions_of}
use Rattle.layout.specs.Locals.{zero_local_code, is_listed}
use Rattle.layout.specs.ChartA1.{sent_state, local_code, ssn, case_id, name_front, arrearage, transfer_state, process_year, line1, line2, city, address_state, zip_code, date_issued, exclusions, filler}
use Rattle.layout.specs.Key.{is_case_type}
use Rattle.casemaster.specs.Row.{row_name_front, is_live}
use Rattle.layout.specs.Record.{is_type, is_known_type, case_type_of, first_initial}
use Rattle.judging.specs.Setting.{Setting}

-- 01: state not in the table, or not the control record's
unfoldable pub error01 : List ℕ → List ℕ → Bool
error01 state rec = not (is_state (sent_state rec)) || not (same_bytes (sent_state rec) state)

-- 02: SSN (6–14) not nine digits, or all zero; or below area 900 with area 000 or 666, group 00 or serial 0000
unfoldable pub error02 : List ℕ → Bool
error02 rec = wrong_ssn (ssn rec)

-- 03: type (73) none of A B C D L M R S T Z
unfoldable pub error03 : List ℕ → Bool
error03 rec = not (is_known_type rec)

-- 04: case type (74) neither A (TANF) nor N (Non-TANF)
unfoldable pub error04 : List ℕ → Bool
error04 rec = not (is_case_type (case_type_of rec))

-- 05: 30–33 aren't one or more letters or hyphens with only spaces behind; for A and B also without a letter
unfoldable pub error05 : List ℕ → Bool
error05 rec = not (is_name (name_front rec)) || (is_type A rec || is_type B rec) && not (has_letter (name_front rec))

-- 06 (A, B): 50 not a letter
unfoldable pub error06 : List ℕ → Bool
error06 rec = (is_type A rec || is_type B rec) && not (is_letter (first_initial rec))

-- 07 (A, M, S): 65–72 not eight digits
unfoldable pub error07 : List ℕ → Bool
error07 rec = (is_type A rec || is_type M rec || is_type S rec) && not (are_digits 8 (arrearage rec))

-- 08 (A): 65–72 digits, below 25
unfoldable pub error08 : List ℕ → Bool
error08 rec = is_type A rec && (are_digits 8 (arrearage rec) && ltb (number (arrearage rec)) 25)

-- a live row with this key
unfoldable pub is_live_row : Option (List ℕ) → Bool
is_live_row none = false
is_live_row (some row) = is_live row

-- 09 (all but A): no live row with this key
unfoldable pub error09 : Option (List ℕ) → List ℕ → Bool
error09 row rec = not (is_type A rec) && not (is_live_row row)

-- a local code (3–5) that is spaces, 000 or listed
unfoldable pub is_local_code : List ℕ → List ℕ → Bool
is_local_code list rec = is_blank (local_code rec) || same_bytes (local_code rec) zero_local_code || is_listed (local_code rec) list

-- 10 (L): local code (3–5) neither spaces, 000 nor listed
unfoldable pub error10 : List ℕ → List ℕ → Bool
error10 list rec = is_type L rec && not (is_local_code list rec)

-- 11 (C): case ID (15–29) all spaces
unfoldable pub error11 : List ℕ → Bool
error11 rec = is_type C rec && is_blank (case_id rec)

-- 12 (T): 75–76 not in the table
unfoldable pub error12 : List ℕ → Bool
error12 rec = is_type letter_t rec && not (is_state (transfer_state rec))

-- 13 (S): 80–83 not four digits Y with year − 7 ≤ Y ≤ year
unfoldable pub error13 : ℕ → List ℕ → Bool
error13 year rec = is_type S rec && not (in_window year (process_year rec))

-- 14 (Z): both lines (84–113, 114–143) blank, city (144–168) blank, state (169–170) not in the table, or ZIP (171–179) wrong
unfoldable pub wrong_address : List ℕ → Bool
wrong_address rec =
    is_blank (line1 rec) && is_blank (line2 rec) || is_blank (city rec)
    || not (is_state (address_state rec)) || not (is_zip (zip_code rec))

-- 14 (A): a state or ZIP that isn't blank and is wrong
unfoldable pub wrong_part : List ℕ → Bool
wrong_part rec =
    not (is_blank (address_state rec)) && not (is_state (address_state rec))
    || not (is_blank (zip_code rec)) && not (is_zip (zip_code rec))

unfoldable pub error14 : List ℕ → Bool
error14 rec = is_type Z rec && wrong_address rec || is_type A rec && wrong_part rec

-- 15 (A): 180–187 neither blank nor a Gregorian date CCYYMMDD of 1900–9999
unfoldable pub error15 : List ℕ → Bool
error15 rec = is_type A rec && not (is_blank (date_issued rec) || is_date (date_issued rec))

-- 16 (A, R): a word of 188–227 isn't one of the eight
unfoldable pub error16 : List ℕ → Bool
error16 rec = (is_type A rec || is_type R rec) && is_none (exclusions_of (exclusions rec))

-- columns 30–33 differ from the stored 31–34
unfoldable pub is_other_name : Option (List ℕ) → List ℕ → Bool
is_other_name none rec = false
is_other_name (some row) rec = not (same_bytes (name_front rec) (row_name_front row))

-- columns 30–33 are one of the names that B records of the key give
unfoldable pub is_given : List (List ℕ) → List ℕ → Bool
is_given names rec = is_one_of (name_front rec) names

-- 17 (all but A, B): 30–33 may match the stored name or one that a B record of the key gives; all differ
unfoldable pub error17 : List (List ℕ) → Option (List ℕ) → List ℕ → Bool
error17 names row rec = not (is_type A rec || is_type B rec) && (is_other_name row rec && not (is_given names rec))

-- 18: 228–244 not spaces
unfoldable pub error18 : List ℕ → Bool
error18 rec = not (is_blank (filler rec))

-- ---- which are judged

-- with 03, only 01, 02, 04, 05, 18 are judged
abbrev pub if_known : List ℕ → Bool → Bool
if_known rec holds = not (error03 rec) && holds

-- 01, 02 or 04
unfoldable pub is_wrong_key : Setting → List ℕ → Bool
is_wrong_key setting rec = error01 setting.state rec || error02 rec || error04 rec

-- 09 where it is judged: with 01, 02 or 04 it isn't
unfoldable pub holds09 : Setting → Option (List ℕ) → List ℕ → Bool
holds09 setting row rec = if_known rec (not (is_wrong_key setting rec) && error09 row rec)

-- 17 where it is judged: with 01, 02 or 04 it isn't, nor where 05 or 09 holds
unfoldable pub holds17 : Setting → Option (List ℕ) → List ℕ → Bool
holds17 setting row rec =
    if_known rec (not (is_wrong_key setting rec) && (not (error05 rec) && (not (error09 row rec) && error17 setting.names row rec)))

-- a code where it holds
abbrev pub code : ℕ → Bool → List ℕ
code c holds = cond holds (c ∷ []) []

-- all that hold, rising
unfoldable pub errors : Setting → Option (List ℕ) → List ℕ → List ℕ
errors setting row rec =
    code 1 (error01 setting.state rec)
    ++ (code 2 (error02 rec)
    ++ (code 3 (error03 rec)
    ++ (code 4 (error04 rec)
    ++ (code 5 (error05 rec)
    ++ (code 6 (if_known rec (error06 rec))
    ++ (code 7 (if_known rec (error07 rec))
    ++ (code 8 (if_known rec (error08 rec))
    ++ (code 9 (holds09 setting row rec)
    ++ (code 10 (if_known rec (error10 setting.list rec))
    ++ (code 11 (if_known rec (error11 rec))
    ++ (code 12 (if_known rec (error12 rec))
    ++ (code 13 (if_known rec (error13 setting.year rec))
    ++ (code 14 (if_known rec (error14 rec))
    ++ (code 15 (if_known rec (error15 rec))
    ++ (code 16 (if_known rec (error16 rec))
    ++ (code 17 (holds17 setting row rec)
    ++ code 18 (error18 rec)))))))))))))))))
