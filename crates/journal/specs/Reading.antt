-- For the contracts of inner functions; no rule of the papers stands here.
-- What the code reads of a journal's bytes. Assumes nothing.
use Rattle.std.specs.Prelude.{ℕ, ◌≤◌, ◌<◌, ◌≡◌, List, ◌+◌, length, take, drop, Option as CodeOption, None, Some}
use Rattle.std.proofs.Math.Option.{Option, none, some}
use Rattle.journal.specs.Numbers.{Read, unread, read, read_number}
use Rattle.journal.specs.Journal.{entry, ReadEntry, no_entry, one_entry, read_entry}
use Rattle.journal.specs.declared.numbers.Number.{Number}
use Rattle.journal.specs.declared.entries.Found.{Found}

-- the first number of five groups: code reads each one below it
abbrev pub reach : ℕ
reach = 268435456

-- no number, or one out of reach
abbrev pub OutOfReach : Read → Type 0
OutOfReach unread = Unit {0}
OutOfReach (read n behind) = reach ≤ n

-- a number that was read, and the index behind it
pub record NumberRead (at : ℕ) (s : List ℕ) (value next : ℕ) : Type 0 where
  pub is : read_number (drop at s) ≡ read value (drop next s)
  pub further : at < next
  pub inside : next ≤ length s

abbrev pub IsNumber : ℕ → List ℕ → CodeOption Number → Type 0
IsNumber at s None = OutOfReach (read_number (drop at s))
IsNumber at s (Some r) = NumberRead at s r.value r.next

-- no entry, or one whose place is out of reach
abbrev pub EntryOutOfReach : ReadEntry → Type 0
EntryOutOfReach no_entry = Unit {0}
EntryOutOfReach (one_entry e behind) = reach ≤ e.place

-- the old row from an index on, unless the entry is new
abbrev pub old_at : CodeOption ℕ → List ℕ → Option (List ℕ)
old_at None s = none
old_at (Some row) s = some (take 200 (drop row s))

-- an entry that was read, the index of its old row, where it has one, and the index behind it
pub record EntryFound (at : ℕ) (s : List ℕ) (place : ℕ) (old : CodeOption ℕ) (next : ℕ) : Type 0 where
  pub is : read_entry (drop at s) ≡ one_entry (entry place (old_at old s)) (drop next s)
  pub further : at < next
  pub inside : next ≤ length s
  pub row_inside : (row : ℕ) → old ≡ Some row → row + 200 ≤ length s

abbrev pub IsEntry : ℕ → List ℕ → CodeOption Found → Type 0
IsEntry at s None = EntryOutOfReach (read_entry (drop at s))
IsEntry at s (Some r) = EntryFound at s r.place r.old r.next
