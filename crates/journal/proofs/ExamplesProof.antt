-- Worked examples of item 8: the definitions compute what is written out by hand. Assumes nothing.
use Prim.Native.Nat.{ℕ}
use mathlib.Core.Path.{◌≡◌, refl}
use mathlib.Core.List.{List, [], ◌∷◌, ◌++◌}
use mathlib.Core.Option.{none, some}
use lib.ListN.{replicate}
use Rattle.text.specs.Fields.{same_bytes}
use Rattle.casemaster.specs.Rows.{row_with}
use Rattle.journal.specs.Numbers.{groups, number_bytes, unread, read, read_number}
use Rattle.journal.specs.Journal.{entry, journal, entries_from, journal_of, entry_bytes, entries_bytes, journal_bytes, read_entry, entries_up_to, entries_in, journal_in}

-- numbers: 0, 127, 128 and 300
numbers_are : (number_bytes 0 ≡ 0 ∷ [])
    × (number_bytes 127 ≡ 127 ∷ [])
    × (number_bytes 128 ≡ 0x80 ∷ 0x01 ∷ [])
    × (number_bytes 300 ≡ 0xAC ∷ 0x02 ∷ [])
unfolding number_bytes groups
numbers_are = (refl, refl, refl, refl)

-- a longer form, an empty one and one that doesn't end are no numbers; the limit and the least number of four groups are read
not-numbers : (read_number (0x80 ∷ 0x00 ∷ []) ≡ unread)
    × (read_number (0xAC ∷ 0x82 ∷ 0x00 ∷ []) ≡ unread)
    × (read_number [] ≡ unread)
    × (read_number (0xAC ∷ []) ≡ unread)
    × (read_number (0xAC ∷ 0x02 ∷ 9 ∷ []) ≡ read 300 (9 ∷ []))
    × (read_number (0xFF ∷ 0xFF ∷ 0xFF ∷ 0x07 ∷ []) ≡ read 16777215 [])
    × (read_number (0x80 ∷ 0x80 ∷ 0x80 ∷ 0x01 ∷ []) ≡ read 2097152 [])
unfolding read_number
not-numbers = (refl, refl, refl, refl, refl, refl, refl)

-- rows by their first byte, 200 bytes each
abbrev pub example_row : ℕ → ℕ → List ℕ
example_row key last = key ∷ (replicate 198 0x40 ++ last ∷ [])

-- at entry 1, 3 and 5; at the end 1, 2 (new), 3 (changed) and 5
abbrev pub example_before : List (List ℕ)
example_before = example_row 1 0 ∷ example_row 3 0 ∷ example_row 5 0 ∷ []

abbrev pub example_after : List (List ℕ)
example_after = example_row 1 0 ∷ example_row 2 0 ∷ example_row 3 7 ∷ example_row 5 0 ∷ []

journal_is : journal_of example_before example_after ≡ journal 3 4 (entry 1 none ∷ entry 2 (some (example_row 3 0)) ∷ [])
unfolding journal_of entries_from row_with same_bytes
journal_is = refl

bytes_are : journal_bytes (journal 3 4 (entry 1 none ∷ entry 2 (some (example_row 3 0)) ∷ [])) ≡ 3 ∷ 4 ∷ 1 ∷ 0 ∷ 2 ∷ 1 ∷ example_row 3 0
unfolding journal_bytes entries_bytes entry_bytes number_bytes groups
bytes_are = refl

-- trailing bytes, an empty journal, another mark and a row cut short are of no journal
not_journals : (journal_in [] ≡ none)
    × (journal_in (0 ∷ []) ≡ none)
    × (journal_in (0 ∷ 0 ∷ []) ≡ some (journal 0 0 []))
    × (journal_in (0 ∷ 1 ∷ 0 ∷ 2 ∷ []) ≡ none)
    × (journal_in (0 ∷ 1 ∷ 0 ∷ 0 ∷ 9 ∷ []) ≡ none)
    × (journal_in (1 ∷ 1 ∷ 0 ∷ 1 ∷ replicate 199 0x40) ≡ none)
unfolding journal_in read_number read_entry entries_in entries_up_to
not_journals = (refl, refl, refl, refl, refl, refl)
