-- `adds::fit`: the rows counted are no fewer than in the end, and at the end they are these. Assumes nothing.
use Rattle.text.specs.Blocks.{blocks}
use Rattle.casemaster.specs.Master.{rows_of}
use Rattle.turns.proofs.NewLaws.{Counted}
use Rattle.turns.proofs.adds.fit.Given as goal

abbrev pub invariant-loop-i : goal.invariant-loop-i
invariant-loop-i l = Counted (rows_of l.n l.m) (blocks 245 l.d l.batch) l.n l.i l.rows
