-- `exclusions::is_separator` meets its contract, by the first test. Assumes nothing.
use borrow.Author.Tests.{eq-eqb, ne_eqb}
use Rattle.exclusionsets.specs.Exclusions.{is_separator}
use Rattle.exclusionsets.proofs.exclusions.is_separator.Goals as goal

pub returns-then-b-eq107 : goal.returns-then-b-eq107
unfolding is_separator
returns-then-b-eq107 c = rw (eq-eqb _ _ c.if-b-eq107.true)

pub returns-else-b-eq107 : goal.returns-else-b-eq107
unfolding is_separator
returns-else-b-eq107 c = rw (ne_eqb _ _ c.if-b-eq107.false)
