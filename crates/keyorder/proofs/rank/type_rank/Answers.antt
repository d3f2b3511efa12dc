-- `rank::type_rank`: the test compares the byte with N. Assumes nothing.
use borrow.Author.Tests.{eq-eqb, ne_eqb}
use Rattle.keyorder.proofs.rank.type_rank.Goals as goal

pub returns-then-b-eq-NON_TANF : goal.returns-then-b-eq-NON_TANF
returns-then-b-eq-NON_TANF c = rw (eq-eqb _ _ c.if-b-eq-NON_TANF.true)

pub returns-else-b-eq-NON_TANF : goal.returns-else-b-eq-NON_TANF
returns-else-b-eq-NON_TANF c = rw (ne_eqb _ _ c.if-b-eq-NON_TANF.false)
