-- `mark_table`: the marks so far, with those of the records that are left, make the whole. Assumes nothing.
use Rattle.contactupdate.specs.Marks.{keys_marked}
use Rattle.contacttable.specs.Table.{contacts_of}
use lib.ListN.{length, drop}
use mathlib.Core.Path.{◌≡◌}
use Rattle.contactupdate.proofs.marks.mark_table.Given as goal

abbrev pub invariant-loop-rec : goal.invariant-loop-rec
invariant-loop-rec l =
    (goal.iterator-loop-rec).can_next l.rec-iterator
    × (goal.iterator-loop-rec).is_finite l.rec-iterator
    × (length l.held ≡ 54000)
    × (keys_marked (drop (length l.yielded) (contacts_of l.count l.table)) l.held ≡ keys_marked (contacts_of l.count l.table) l.initial.held)
