-- `put_codes`: what is written and the codes of the records that are left make the whole; what stands behind is kept. Assumes nothing.
use lib.ListN.{length}
use Rattle.contacttable.proofs.CodesLaws.{CodesWriting}
use Rattle.contacttable.proofs.codes.put_codes.Given as goal

abbrev pub invariant-loop-rec : goal.invariant-loop-rec
invariant-loop-rec l =
    (goal.iterator-loop-rec).can_next l.rec-iterator
    × (goal.iterator-loop-rec).is_finite l.rec-iterator
    × CodesWriting l.state l.n l.m l.initial.out l.out l.k (length l.yielded)
