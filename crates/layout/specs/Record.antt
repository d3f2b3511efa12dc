-- Document 01, "A record's errors": a detail record has 245 bytes (Chart A-1); its key and its type. Assumes nothing.
use Rattle.std.specs.Prelude.{ℕ, List, ◌++◌, Bool, ◌||◌, eqb}
use Rattle.text.specs.Characters.{A, B, C, D, L, M, R, S, letter_t, Z}
use Rattle.text.specs.Fields.{column}
use Rattle.layout.specs.ChartA1.{sent_state, ssn, case_type}

-- its key is columns 1–2, 6–14, 74, sound or not
abbrev pub record_key : List ℕ → List ℕ
record_key rec = sent_state rec ++ ssn rec ++ case_type rec

-- column 73 alone decides the type
abbrev pub type_of : List ℕ → ℕ
type_of rec = column 73 rec

abbrev pub is_type : ℕ → List ℕ → Bool
is_type t rec = eqb (type_of rec) t

-- one of A B C D L M R S T Z
unfoldable pub is_known_type : List ℕ → Bool
is_known_type rec =
    is_type A rec || is_type B rec || is_type C rec || is_type D rec || is_type L rec || is_type M rec || is_type R rec || is_type S rec
    || is_type letter_t rec || is_type Z rec

-- column 74, the case type, and column 50, the first letter of the first name
abbrev pub case_type_of : List ℕ → ℕ
case_type_of rec = column 74 rec

abbrev pub first_initial : List ℕ → ℕ
first_initial rec = column 50 rec
