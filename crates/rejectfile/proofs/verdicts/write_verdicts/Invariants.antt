-- `verdicts::write_verdicts`: what stands in the buffers and what the details that are left add make the whole (`Writing`). Assumes nothing.
use lib.ListN.{length}
use Rattle.rejectfile.proofs.WritingLaws.{Writing}
use Rattle.rejectfile.proofs.verdicts.write_verdicts.Given as goal

abbrev pub invariant-loop-i : goal.invariant-loop-i
invariant-loop-i l =
    (goal.iterator-loop-i).can_next l.i-iterator
    × (goal.iterator-loop-i).is_finite l.i-iterator
    × Writing l.rows l.batch l.d l.initial.numbers l.initial.rejects l.numbers l.rejects l.s (length l.yielded)
