-- `is_state` is membership in the state table: what is not two bytes is not in it, and two bytes are where their number is a state's.
-- Assumes nothing.
use mathlib.Core.Path.{sym, ◌∙◌}
use native.Mathlib.Omega.{arith}
use borrow.Author.Tests.{ne_eqb}
use Rattle.layout.proofs.StatesLaws.{state_of-code, state_other}
use Rattle.layout.proofs.states.is_state.Goals as goal

pub returns-then-s-eq2 : goal.returns-then-s-eq2
returns-then-s-eq2 c =
    let s = c.args.s.now in
    c.is_code.ensures ∙ rw c.from_be_bytes.ensures (sym (state_of-code s c.if-s-eq2.true (omega (arith, c.type_inv.s 1))))

pub returns-else-s-eq2 : goal.returns-else-s-eq2
returns-else-s-eq2 c = rw (ne_eqb _ _ c.if-s-eq2.false) (sym (state_other c.args.s.now c.if-s-eq2.false))
