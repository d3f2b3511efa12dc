-- Laws of one key's entry: which bytes it has, and how many at most. Assumes nothing.
use Prim.Native.Nat.{ℕ, suc, ◌+◌, ◌^◌, ◌≤◌, ◌<◌}
use mathlib.Core.Path.{◌≡◌}
use mathlib.Core.Bool.{Bool, true, false, cond}
use mathlib.Core.List.{List, [], ◌∷◌}
use mathlib.Core.Option.{Option, none, some}
use native.Mathlib.Omega.{arith}
use lib.ListN.{length}
use Rattle.text.specs.Fields.{same_bytes}
use Rattle.text.proofs.SplicedLaws.{spliced_none}
use Rattle.casemaster.proofs.RowsLaws.{Each, IsWide}
use Rattle.journal.proofs.LengthLaws.{one_bytes, no_bytes}
use Rattle.journal.specs.Journal.{entry, entry_bytes, entries_bytes}
use Rattle.journal.specs.Writing.{Wrote, key_bytes}
use Rattle.journal.proofs.NumberLaws.{number-length}
use Rattle.journal.proofs.WritingLaws.{length_new, length_old}

-- nothing is written
pub wrote_none : (d : List ℕ) (at : ℕ) (bytes : List ℕ) → bytes ≡ [] → Wrote d at bytes d at
wrote_none d at bytes e = record { next_is = rw e (omega arith); bytes_are = rw e (spliced_none d at) }

-- a row that was, beside the one at the end: no entry where they are the same, else one with the row that was
pub same_entry : (place : ℕ) (was row : List ℕ) (t : Bool) → t ≡ same_bytes was row → t ≡ true → key_bytes true place (some was) (some row) ≡ []
same_entry place was row t h k = rw (← h, k) no_bytes

pub old_entry : (place : ℕ) (was row : List ℕ) (t : Bool) → t ≡ same_bytes was row → t ≡ false
    → key_bytes true place (some was) (some row) ≡ entry_bytes (entry place (some was))
old_entry place was row t h k = rw (← h, k) (one_bytes (entry place (some was)))

pub wrote_as : (d : List ℕ) (at : ℕ) (a b after : List ℕ) (next : ℕ) → a ≡ b → Wrote d at b after next → Wrote d at a after next
wrote_as d at a b after next e w = rw e w

pub room_as : (at l : ℕ) (a b : List ℕ) → a ≡ b → at + length a ≤ l → at + length b ≤ l
room_as at l a b e h = rw e at h

-- a key's entry is at most its place's groups and 201 bytes
pub key_bytes-length : (wanted : Bool) (place groups : ℕ) (old new : Option (List ℕ)) → place < 128 ^ suc groups → Each IsWide old
    → length (key_bytes wanted place old new) ≤ cond wanted (suc groups + 201) 0
key_bytes-length false place groups old new h w = omega arith
key_bytes-length true place groups old none h w = rw no_bytes (omega arith)
key_bytes-length true place groups none (some row) h w =
    rw (one_bytes (entry place none)) (omega (arith, length_new place, number-length groups place h))
key_bytes-length true place groups (some was) (some row) h w = go (same_bytes was row)
  where
    go : (t : Bool) → length (entries_bytes (cond t [] (entry place (some was) ∷ []))) ≤ suc groups + 201
    go true = rw no_bytes (omega arith)
    go false = rw (one_bytes (entry place (some was))) (omega (arith, length_old place was, number-length groups place h))
