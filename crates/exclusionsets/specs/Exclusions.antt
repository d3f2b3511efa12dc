-- Document 01, error 16: the exclusion words, and the set that they name; document 02, item 7: what ADM puts into it. Assumes nothing.
use Rattle.std.specs.Prelude.{ℕ, zero, suc, ◌+◌, ◌/◌, ◌%◌, ◌^◌, List, [], ◌∷◌, ◌++◌, Bool, cond, ◌||◌, eqb, ltb}
use Rattle.std.proofs.Math.Option.{Option, none, some}
use Rattle.std.specs.Prelude as library
use Rattle.std.specs.Int.Bits.{bit_or}
use Rattle.text.specs.Characters.{comma, space, A, C, D, E, F, I, K, L, M, N, P, R, S, letter_t, letter_v, X}
use Rattle.text.specs.Fields.{same_bytes, spaces, unless_empty}

-- the set's bits, lowest first: ADM RET VEN SAL TAX PAS FIN DCK
unfoldable pub exclusion_names : List (List ℕ)
exclusion_names =
    (A ∷ D ∷ M ∷ []) ∷ (R ∷ E ∷ letter_t ∷ []) ∷ (letter_v ∷ E ∷ N ∷ []) ∷ (S ∷ A ∷ L ∷ []) ∷
    (letter_t ∷ A ∷ X ∷ []) ∷ (P ∷ A ∷ S ∷ []) ∷ (F ∷ I ∷ N ∷ []) ∷ (D ∷ C ∷ K ∷ []) ∷ []

-- commas and spaces divide the field into words
unfoldable pub is_separator : ℕ → Bool
is_separator b = eqb b comma || eqb b space

-- the words of the bytes that are left, where word is what has been read of a word; the field's end ends a word; empty words are skipped
unfoldable pub words_from : List ℕ → List ℕ → List (List ℕ)
words_from word [] = unless_empty word []
words_from word (b ∷ bs) = cond (is_separator b) (unless_empty word (words_from [] bs)) (words_from (word ++ b ∷ []) bs)

-- the place of a word among names, the first being 0; as many as there are names where it is none of them
abbrev pub place_among : List ℕ → List (List ℕ) → ℕ
place_among word [] = 0
place_among word (name ∷ names) = cond (same_bytes word name) 0 (suc (place_among word names))

-- what the name at a place puts into the set: its own bit; where a field names ADM, RET, SAL and VEN as well
abbrev pub bits_named : ℕ → ℕ
bits_named zero = 2 ^ 0 + 2 ^ 1 + 2 ^ 2 + 2 ^ 3
bits_named (suc n) = 2 ^ suc n

-- the words read one after the other onto a set; the reading stops at the first that isn't one of the eight; repeats count once
unfoldable pub read_onto : ℕ → List (List ℕ) → Option ℕ
read_onto set [] = some set
read_onto set (word ∷ words) =
    cond (ltb (place_among word exclusion_names) 8) (read_onto (bit_or set (bits_named (place_among word exclusion_names))) words) none

-- the set of an exclusion field, or none with error 16
unfoldable pub exclusions_of : List ℕ → Option ℕ
exclusions_of s = read_onto 0 (words_from [] s)

-- what the answer of the reading stands for
abbrev pub set_read : library.Option ℕ → Option ℕ
set_read (library.Some set) = some set
set_read library.None = none

-- the names of Chart 0-6: each three letters where its bit is set and three spaces where not
unfoldable pub names_shown : ℕ → List (List ℕ) → List ℕ
names_shown set [] = []
names_shown set (name ∷ names) = cond (eqb (set % 2) 1) name (spaces 3) ++ names_shown (set / 2) names

-- the twenty-four columns 82–105 of Chart 0-6
unfoldable pub exclusion_columns : ℕ → List ℕ
exclusion_columns set = names_shown set exclusion_names
