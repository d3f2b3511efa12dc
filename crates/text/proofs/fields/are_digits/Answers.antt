-- `fields::are_digits` meets its contract: n digits are the length n, tested first, and digits alone. Assumes nothing.
use borrow.Author.Tests.{eq-eqb, ne_eqb}
use Rattle.text.specs.Fields.{are_digits}
use Rattle.text.proofs.fields.are_digits.Goals as goal

pub returns-then-s-n : goal.returns-then-s-n
unfolding are_digits
returns-then-s-n c = rw (eq-eqb _ _ c.if-s-n.true) c.all_digits.ensures

pub returns-else-s-n : goal.returns-else-s-n
unfolding are_digits
returns-else-s-n c = rw (ne_eqb _ _ c.if-s-n.false)
