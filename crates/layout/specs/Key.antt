-- Document 01, "A case's row": the key and its soundness. Assumes nothing.
use Rattle.std.specs.Prelude.{ℕ, List, Bool, not, ◌&&◌, ◌||◌, length, eqb}
use Rattle.text.specs.Characters.{A, N}
use Rattle.text.specs.Fields.{column, columns, same_bytes}
use Rattle.layout.specs.States.{is_state}
use Rattle.layout.specs.Ssn.{wrong_ssn}

-- a case type: A (TANF) or N (Non-TANF); anything else is error 04
unfoldable pub is_case_type : ℕ → Bool
is_case_type b = eqb b A || eqb b N

-- a key free of errors 01 (any state of the table), 02 and 04; a key not of twelve bytes is unsound
unfoldable pub is_sound_key : List ℕ → Bool
is_sound_key key =
    eqb (length key) 12
    && (is_state (columns 1 2 key) && (not (wrong_ssn (columns 3 11 key)) && is_case_type (column 12 key)))

-- a sound key of the submitting state: one free of 01, 02 and 04
unfoldable pub is_own_key : List ℕ → List ℕ → Bool
is_own_key state key = is_sound_key key && same_bytes (columns 1 2 key) state
