-- `outcome::lent_length`: by whether the length is a multiple of 200, as in the definition. Assumes nothing.
use borrow.Author.Tests.{eq-eqb, ne_eqb}
use Rattle.apply_files.specs.Run.{lent_length}
use Rattle.apply_files.proofs.outcome.lent_length.Goals as goal

pub returns-then-n-eq0 : goal.returns-then-n-eq0
unfolding lent_length
returns-then-n-eq0 c = rw (eq-eqb _ _ c.if-n-eq0.true)

pub returns-else-n-eq0 : goal.returns-else-n-eq0
unfolding lent_length
returns-else-n-eq0 c = rw (ne_eqb _ _ c.if-n-eq0.false)
