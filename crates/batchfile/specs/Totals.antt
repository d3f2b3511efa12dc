-- Document 01, "Applying a batch": the control record of Chart A-2, part by part as document 02, item 5, asks for it, and the totals.
-- Assumes nothing.
use Rattle.std.specs.Prelude.{ℕ, ◌+◌, List, [], ◌∷◌, Bool, cond, ◌&&◌, ◌||◌, eqb}
use Rattle.text.specs.Characters.{A, C, L, M, N, letter_t}
use Rattle.text.specs.Fields.{columns, is_blank, all_digits, are_digits, number, same_bytes}
use Rattle.layout.specs.States.{is_state}
use Rattle.layout.specs.ChartA1.{arrearage}
use Rattle.layout.specs.ChartA2.{control_state, control, total_tanf, total_non_tanf, amount_tanf, amount_non_tanf, control_filler}
use Rattle.layout.specs.Record.{is_type, case_type_of}

-- the letters CTL
abbrev pub CTL : List ℕ
CTL = C ∷ letter_t ∷ L ∷ []

-- columns 3–5 are CTL
unfoldable pub has_ctl : List ℕ → Bool
has_ctl rec = same_bytes (control rec) CTL

-- the state, columns 1–2, is in the table
unfoldable pub has_state : List ℕ → Bool
has_state rec = is_state (control_state rec)

-- the four totals, columns 6–45, are digits, and the filler, columns 46–245, is spaces
unfoldable pub has_totals : List ℕ → Bool
has_totals rec = all_digits (columns 6 45 rec) && is_blank (control_filler rec)

-- the number of details of a case type
unfoldable pub count_of : ℕ → List (List ℕ) → ℕ
count_of case_type [] = 0
count_of case_type (detail ∷ details) = cond (eqb (case_type_of detail) case_type) 1 0 + count_of case_type details

-- amounts sum columns 65–72 of A and M records where they are eight digits
unfoldable pub amount_in : ℕ → List ℕ → ℕ
amount_in case_type detail =
    cond (eqb (case_type_of detail) case_type && ((is_type A detail || is_type M detail) && are_digits 8 (arrearage detail)))
    (number (arrearage detail)) 0

unfoldable pub amount_of : ℕ → List (List ℕ) → ℕ
amount_of case_type [] = 0
amount_of case_type (detail ∷ details) = amount_in case_type detail + amount_of case_type details

-- both counts are as the control record says
unfoldable pub are_counts_right : List ℕ → List (List ℕ) → Bool
are_counts_right rec details =
    eqb (number (total_tanf rec)) (count_of A details) && eqb (number (total_non_tanf rec)) (count_of N details)

-- both amounts are as the control record says
unfoldable pub are_amounts_right : List ℕ → List (List ℕ) → Bool
are_amounts_right rec details =
    eqb (number (amount_tanf rec)) (amount_of A details) && eqb (number (amount_non_tanf rec)) (amount_of N details)
