-- `codes::one_if_given`: above the rest of a giver stands twice its name's number. Assumes nothing.
use borrow.Author.Tests.{eq-eqb, ne_eqb}
use borrow.Author.Rules.{rules}
use Rattle.namemarks.proofs.codes.one_if_given.Goals as goal

pub returns-then-x-given : goal.returns-then-x-given
returns-then-x-given c = (rw (eq-eqb _ _ c.if-x-given.true), search rules)

pub returns-else-x-given : goal.returns-else-x-given
returns-else-x-given c = (rw (ne_eqb _ _ c.if-x-given.false), search rules)
