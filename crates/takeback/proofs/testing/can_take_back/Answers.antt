-- `testing::can_take_back`: with the right count after, the tests from the first place on are all that is left. Assumes nothing.
use Rattle.takeback.proofs.TestingLaws.{taken_no_counts, taken_other, taken_passes}
use borrow.Author.Tests.{ne_eqb}
use mathlib.Core.Path.{◌∙◌}
use Rattle.takeback.proofs.testing.can_take_back.Goals as goal

pub returns-in_default : goal.returns-in_default
returns-in_default c =
    let a = c.args in
    taken_no_counts a.m.now a.n a.journal.now (rw c.in_default.is at c.counts_of.ensures) c.requires.2

pub returns-then-c-n : goal.returns-then-c-n
returns-then-c-n c =
    let a = c.args in
    c.all_tested.ensures ∙ taken_passes a.m.now a.n a.journal.now c.in-Some.c (rw c.in-Some.is at c.counts_of.ensures) c.if-c-n.true

pub returns-else-c-n : goal.returns-else-c-n
returns-else-c-n c =
    let a = c.args in
    ne_eqb c.in-Some.c.after a.n c.if-c-n.false ∙ taken_other a.m.now a.n a.journal.now c.in-Some.c (rw c.in-Some.is at c.counts_of.ensures) c.if-c-n.false
