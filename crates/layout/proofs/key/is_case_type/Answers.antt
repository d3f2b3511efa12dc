-- `layout::key::is_case_type` meets its contract: the code's two tests are the contract's. Assumes nothing.
use borrow.Author.Tests.{ne_eqb}
use Rattle.layout.specs.Key.{is_case_type}
use Rattle.layout.proofs.key.is_case_type.Goals as goal

pub returns-then-b-eq-TANF : goal.returns-then-b-eq-TANF
unfolding is_case_type
returns-then-b-eq-TANF c = rw c.if-b-eq-TANF.true

pub returns-else-b-eq-TANF : goal.returns-else-b-eq-TANF
unfolding is_case_type
returns-else-b-eq-TANF c = rw (ne_eqb _ _ c.if-b-eq-TANF.false)
