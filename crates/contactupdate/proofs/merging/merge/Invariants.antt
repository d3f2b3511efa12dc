-- `merge`: the old records of the keys that are left stand at the front, the final ones of the others at their places (`Merging`). Assumes nothing.
use Rattle.contactupdate.specs.KeyNumbers.{held_in}
use Rattle.contactupdate.specs.Merging.{held_finally}
use Rattle.contactupdate.proofs.MergingLaws.{Merging}
use Rattle.contacttable.specs.Table.{contacts_of}
use Rattle.contactupdate.proofs.merging.merge.Given as goal

abbrev pub invariant-loop-k : goal.invariant-loop-k
invariant-loop-k l = Merging (held_in (contacts_of l.count l.initial.table)) (held_finally l.initial.table l.count l.file l.lasts) 54000 l.total l.initial.table l.k l.o l.p l.table
