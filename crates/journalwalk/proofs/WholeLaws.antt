-- The counts and the entries that the walk writes are the journal of the batch. Assumes nothing.
use Prim.Native.Nat.{ℕ, ◌≤◌}
use mathlib.Core.Bool.{true}
use mathlib.Core.List.{List, ◌++◌, append_assoc}
use native.Mathlib.Omega.{arith}
use lib.ListN.{length}
use Rattle.journal.specs.Numbers.{number_bytes}
use Rattle.journal.specs.Journal.{entries_from, entries_bytes, journal_of, journal_bytes}
use Rattle.journal.specs.Writing.{Wrote}
use Rattle.journalwalk.specs.JournalWalk.{journal_part}
use Rattle.journalwalk.proofs.JournalingLaws.{wrote_then}

-- the whole journal
pub journal_whole : (d d₁ d₂ : List ℕ) (at r : ℕ) (old new : List (List ℕ))
    → length (number_bytes (length old) ++ number_bytes (length new)) ≤ length d
    → Wrote d 0 (number_bytes (length old) ++ number_bytes (length new)) d₁ at → Wrote d₁ at (journal_part true old new) d₂ r
    → Wrote d 0 (journal_bytes (journal_of old new)) d₂ r
unfolding journal_bytes journal_of
journal_whole d d₁ d₂ at r old new h v w =
    let e = append_assoc (number_bytes (length old)) (number_bytes (length new)) (entries_bytes (entries_from 0 old new)) in
    rw (← e) (wrote_then d d₁ d₂ 0 at r (number_bytes (length old) ++ number_bytes (length new)) (entries_bytes (entries_from 0 old new)) (omega arith) v w)
