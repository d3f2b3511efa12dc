-- `codes::given_by`: bit 31 says whether the code gives its name. Assumes nothing.
use borrow.Author.Tests.{eq-eqb, ne_eqb}
use Rattle.namemarks.proofs.codes.given_by.Goals as goal

pub returns-then-x-eq-GIVING : goal.returns-then-x-eq-GIVING
returns-then-x-eq-GIVING c = rw (eq-eqb _ _ c.if-x-eq-GIVING.true)

pub returns-else-x-eq-GIVING : goal.returns-else-x-eq-GIVING
returns-else-x-eq-GIVING c = rw (ne_eqb _ _ c.if-x-eq-GIVING.false)
