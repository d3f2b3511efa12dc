-- For the contracts of inner functions; no rule of the papers stands here.
-- The walk over the keys, with the journal of what it changes. Assumes nothing.
use Rattle.std.specs.Prelude.{ℕ, suc, ◌+◌, ◌*◌, ◌^◌, ◌≤◌, ◌<◌, ◌≡◌, Bool, true, cond, List, [], length}
use Rattle.std.proofs.Math.Option.{Option}
use Rattle.casemaster.specs.Master.{rows_of}
use Rattle.keywalk.specs.Walking.{Fixed, Stand, rows_from, row_now, KeyWorked, KeyWalked, Walked}
use Rattle.journal.specs.Journal.{entries_from, entries_bytes}
use Rattle.journal.specs.Writing.{Wrote, key_bytes}
use Rattle.journalwalk.specs.declared.walk.Cursor.{Cursor}

abbrev pub stand_of : Cursor → List ℕ → List ℕ → Stand
stand_of s master numbers = record { position = s.position; from = s.from; to = s.to; master = master; numbers = numbers }

-- the entry of the key at the position has room
abbrev pub KeyRoom : Fixed → Stand → Bool → ℕ → List ℕ → Type 0
KeyRoom f s wanted written journal =
    (e passed : ℕ) (row : Option (List ℕ)) (numbers' : List ℕ) → KeyWorked f s e passed row numbers'
    → written + length (key_bytes wanted (s.to + passed) (row_now f s passed) row) ≤ length journal

-- one key walked, and its entry written
pub record KeyJournaled (f : Fixed) (s s' : Stand) (wanted : Bool) (journal : List ℕ) (written : ℕ) (journal' : List ℕ) (written' : ℕ) : Type 0 where
  pub walked : KeyWalked f s s'
  pub wrote : Wrote journal written (key_bytes wanted (s.to + walked.passed) (row_now f s walked.passed) walked.row) journal' written'

-- the bytes of the entries, where a journal is wanted
abbrev pub journal_part : Bool → List (List ℕ) → List (List ℕ) → List ℕ
journal_part wanted old rows = cond wanted (entries_bytes (entries_from 0 old rows)) []

-- room for the entries of `own` details, over any limit: a place has at most one group more than `groups`
pub record JournalRoom (wanted : Bool) (own end at : ℕ) (journal : List ℕ) : Type 0 where
  pub groups : ℕ
  pub places : end < 128 ^ suc groups
  pub inside : at ≤ length journal
  pub space : wanted ≡ true → at + (suc groups + 201) * own ≤ length journal

-- what the walk leaves, and the journal of it
pub record WalkJournaled (f : Fixed) (s : Stand) (wanted : Bool) (journal : List ℕ) (at : ℕ) (master' numbers' journal' : List ℕ) (written : ℕ) : Type 0 where
  pub walked : Walked f s master' numbers'
  pub wrote : Wrote journal at (journal_part wanted (rows_from s.from f.end s.master) (rows_of f.end master')) journal' written
