-- `note_file`: what is noted and listed so far, with what the records that are left bring, makes the whole (`Listing`). Assumes nothing.
use Rattle.contactupdate.specs.Noting.{lasts_from}
use Rattle.contactupdate.proofs.NotingLaws.{Listing}
use Rattle.contacttable.specs.Table.{contacts_of}
use lib.ListN.{length, drop}
use mathlib.Core.Path.{◌≡◌}
use Prim.Native.Nat.{◌+◌, ◌≤◌}
use Rattle.contactupdate.proofs.noting.note_file.Given as goal

abbrev pub invariant-loop-i : goal.invariant-loop-i
invariant-loop-i l =
    (goal.iterator-loop-i).can_next l.i-iterator
    × (goal.iterator-loop-i).is_finite l.i-iterator
    × (l.listed ≤ length l.yielded)
    × (length l.lasts ≡ 54000)
    × (length l.faulty ≡ length l.initial.faulty)
    × (lasts_from (length l.yielded + 1) (drop (length l.yielded) (contacts_of l.n l.file)) l.lasts ≡ lasts_from 1 (contacts_of l.n l.file) l.initial.lasts)
    × Listing l.n l.file l.initial.faulty l.faulty l.listed (length l.yielded)
