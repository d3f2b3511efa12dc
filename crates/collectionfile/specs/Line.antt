-- Document 02, item 6, over Chart 0-4: a line of the collection file, its key and its amounts in cents. Assumes nothing.
use Rattle.std.specs.Prelude.{ℕ, ◌+◌, ◌*◌, ◌%◌, List, ◌++◌, Bool, not, cond, ◌&&◌, ◌||◌, length, eqb, ltb}
use Rattle.std.proofs.Math.Option.{Option, none, some}
use Rattle.text.specs.Characters.{within}
use Rattle.text.specs.Fields.{column, columns, all_digits, number}
use Rattle.text.specs.Options.{is_none, or_zero}
use Rattle.collectionfile.specs.Chart04.{line_state, line_ssn, line_collection, line_adjustment, line_case_type}

-- a line's key is its columns 1–2, 6–14 and 107
unfoldable pub line_key : List ℕ → List ℕ
line_key line = line_state line ++ line_ssn line ++ line_case_type line

-- a last digit F0–F9 or C0–C9
unfoldable pub is_last_digit : ℕ → Bool
is_last_digit b = within 0xF0 0xF9 b || within 0xC0 0xC9 b

-- ten digits and a last digit; else bad
unfoldable pub is_amount : List ℕ → Bool
is_amount field = eqb (length field) 11 && (all_digits (columns 1 10 field) && is_last_digit (column 11 field))

-- its cents: the low half of the last byte is the digit
unfoldable pub amount : List ℕ → ℕ
amount field = number (columns 1 10 field) * 10 + column 11 field % 16

-- the cents of an amount field, none if it is bad
unfoldable pub amount_cents : List ℕ → Option ℕ
amount_cents field = cond (is_amount field) (some (amount field)) none

-- a collection (76–86)
abbrev pub collection_in : List ℕ → Option ℕ
collection_in line = amount_cents (line_collection line)

-- an adjustment (87–97)
abbrev pub adjustment_in : List ℕ → Option ℕ
adjustment_in line = amount_cents (line_adjustment line)

-- a bad one is zero
unfoldable pub collected : List ℕ → ℕ
collected line = or_zero (collection_in line)

unfoldable pub adjusted : List ℕ → ℕ
adjusted line = or_zero (adjustment_in line)

-- neither amount bad, and not both above zero
unfoldable pub is_right : List ℕ → Bool
is_right line =
    not (is_none (collection_in line)) && (not (is_none (adjustment_in line)) && not (ltb 0 (collected line) && ltb 0 (adjusted line)))
