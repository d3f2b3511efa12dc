-- `balance::status_of` meets its contract: by cases. Assumes nothing.
use borrow.Author.Tests.{eq-eqb, ne_eqb}
use Rattle.posting.proofs.balance.status_of.Goals as goal

pub returns-then-cents-eq0 : goal.returns-then-cents-eq0
returns-then-cents-eq0 c = rw (eq-eqb _ 0 c.if-cents-eq0.true)

pub returns-else-cents-eq0 : goal.returns-else-cents-eq0
returns-else-cents-eq0 c = rw (ne_eqb _ 0 c.if-cents-eq0.false)
