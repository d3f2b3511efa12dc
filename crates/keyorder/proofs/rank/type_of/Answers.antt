-- `rank::type_of`: the test is the definition's. Assumes nothing.
use borrow.Author.Tests.{eq-eqb, ne_eqb}
use Rattle.keyorder.proofs.rank.type_of.Goals as goal

pub returns-then-part-eq1 : goal.returns-then-part-eq1
returns-then-part-eq1 c = rw (eq-eqb c.args.part 1 c.if-part-eq1.true)

pub returns-else-part-eq1 : goal.returns-else-part-eq1
returns-else-part-eq1 c = rw (ne_eqb c.args.part 1 c.if-part-eq1.false)
