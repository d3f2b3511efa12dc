-- `balance::balance_after` meets its contract: what is taken is at most what there is, or nothing is left. Assumes nothing.
use native.Mathlib.Omega.{arith}
use Rattle.posting.proofs.balance.balance_after.Goals as goal

pub overflow_add-raised : goal.overflow_add-raised
overflow_add-raised c = omega (arith, c.requires)

pub returns-then-raised-taken : goal.returns-then-raised-taken
returns-then-raised-taken c = omega (arith, c.if-raised-taken.true)

pub returns : goal.returns
returns c = omega (arith, c.if-raised-taken.false)
