-- `present` is 1 where a record is noted, else the mark. Assumes nothing.
use Rattle.contactupdate.specs.Merging.{present_of}
use borrow.Author.Tests.{eq-eqb, ne_eqb}
use Rattle.contactupdate.proofs.merging.present.Goals as goal

pub returns-then-last-eq0 : goal.returns-then-last-eq0
unfolding present_of
returns-then-last-eq0 c = rw (eq-eqb _ _ c.if-last-eq0.true)

pub returns : goal.returns
unfolding present_of
returns c = rw (ne_eqb _ _ c.if-last-eq0.false)
