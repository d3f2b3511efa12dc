-- `totals::totals_of`: what was added up, with what the details that are left add, is the whole. Assumes nothing.
use lib.ListN.{length}
use Rattle.batchfile.proofs.TotalsLaws.{AreSoFar}
use Rattle.batchfile.proofs.totals.totals_of.Given as goal

abbrev pub invariant-loop-rec : goal.invariant-loop-rec
invariant-loop-rec l =
    (goal.iterator-loop-rec).can_next l.rec-iterator
    × (goal.iterator-loop-rec).is_finite l.rec-iterator
    × AreSoFar l.n l.batch (length l.yielded) l.t
