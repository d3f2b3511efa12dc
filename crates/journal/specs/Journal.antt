-- Document 02, item 8: the journal of a batch. Assumes nothing.
use Rattle.std.specs.Prelude.{ℕ, zero, suc, List, [], ◌∷◌, ◌++◌, cond, ◌&&◌, leb, eqb, length, take, drop}
use Rattle.std.proofs.Math.Option.{Option, none, some}
use Rattle.text.specs.Fields.{same_bytes}
use Rattle.casemaster.specs.Row.{row_key}
use Rattle.casemaster.specs.Rows.{row_with}
use Rattle.journal.specs.Numbers.{number_bytes, Read, unread, read, read_number}

-- a place after the batch and the row that its key had before, or none where the row is new
pub record Entry : Type 0 where
  pub place : ℕ
  pub old : Option (List ℕ)

abbrev pub entry : ℕ → Option (List ℕ) → Entry
entry place old = record { place = place; old = old }

pub record Journal : Type 0 where
  pub before : ℕ
  pub after : ℕ
  pub entries : List Entry

abbrev pub journal : ℕ → ℕ → List Entry → Journal
journal before after entries = record { before = before; after = after; entries = entries }

-- ---- the journal of a batch, from the rows at entry and at the end

-- the entry of a row at the end, from the row at entry with its key: none where the two are the same
abbrev pub entry_of : ℕ → Option (List ℕ) → List ℕ → List Entry
entry_of place none row = entry place none ∷ []
entry_of place (some old) row = cond (same_bytes old row) [] (entry place (some old) ∷ [])

-- those of the rows at the end, by rising place, the first of them standing at a place
unfoldable pub entries_from : ℕ → List (List ℕ) → List (List ℕ) → List Entry
entries_from place old [] = []
entries_from place old (row ∷ rows) = entry_of place (row_with (row_key row) old) row ++ entries_from (suc place) old rows

-- the row counts before and after, then the entries
unfoldable pub journal_of : List (List ℕ) → List (List ℕ) → Journal
journal_of old new = journal (length old) (length new) (entries_from zero old new)

-- ---- its bytes

-- a mark, 00 new, 01 changed, and for 01 the old row
abbrev pub old_bytes : Option (List ℕ) → List ℕ
old_bytes none = 0 ∷ []
old_bytes (some row) = 1 ∷ row

unfoldable pub entry_bytes : Entry → List ℕ
entry_bytes e = number_bytes e.place ++ old_bytes e.old

unfoldable pub entries_bytes : List Entry → List ℕ
entries_bytes [] = []
entries_bytes (e ∷ es) = entry_bytes e ++ entries_bytes es

unfoldable pub journal_bytes : Journal → List ℕ
journal_bytes j = number_bytes j.before ++ (number_bytes j.after ++ entries_bytes j.entries)

-- ---- what bytes say, if they are of this form

-- an entry at the front of some bytes and the bytes behind it, or none
pub data ReadEntry : Type 0 where
  no_entry : ReadEntry
  one_entry : Entry → List ℕ → ReadEntry

-- behind its place: the mark, and for 01 a row of 200 bytes
abbrev pub read_old : ℕ → List ℕ → ReadEntry
read_old place [] = no_entry
read_old place (mark ∷ bytes) =
    cond (eqb mark 0) (one_entry (entry place none) bytes)
    (cond (eqb mark 1 && leb 200 (length bytes)) (one_entry (entry place (some (take 200 bytes))) (drop 200 bytes)) no_entry)

abbrev pub read_placed : Read → ReadEntry
read_placed unread = no_entry
read_placed (read place bytes) = read_old place bytes

unfoldable pub read_entry : List ℕ → ReadEntry
read_entry bytes = read_placed (read_number bytes)

-- an entry before others
abbrev pub before_others : Entry → Option (List Entry) → Option (List Entry)
before_others e none = none
before_others e (some es) = some (e ∷ es)

-- it and those that are read behind it
abbrev pub entries_behind : (List ℕ → Option (List Entry)) → ReadEntry → Option (List Entry)
entries_behind others no_entry = none
entries_behind others (one_entry e bytes) = before_others e (others bytes)

-- entries to the end of some bytes, at most a given number of them
unfoldable pub entries_up_to : ℕ → List ℕ → Option (List Entry)
entries_up_to zero [] = some []
entries_up_to zero (b ∷ bs) = none
entries_up_to (suc most) [] = some []
entries_up_to (suc most) (b ∷ bs) = entries_behind (λ bytes. entries_up_to most bytes) (read_entry (b ∷ bs))

-- entries to the end of some bytes: there are never more than bytes
unfoldable pub entries_in : List ℕ → Option (List Entry)
entries_in bytes = entries_up_to (length bytes) bytes

abbrev pub with_counts : ℕ → ℕ → Option (List Entry) → Option Journal
with_counts before after none = none
with_counts before after (some entries) = some (journal before after entries)

abbrev pub behind_after : ℕ → Read → Option Journal
behind_after before unread = none
behind_after before (read after bytes) = with_counts before after (entries_in bytes)

abbrev pub behind_before : Read → Option Journal
behind_before unread = none
behind_before (read before bytes) = behind_after before (read_number bytes)

-- the journal that bytes are, all of them
unfoldable pub journal_in : List ℕ → Option Journal
journal_in bytes = behind_before (read_number bytes)
