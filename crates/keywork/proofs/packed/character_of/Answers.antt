-- `packed::character_of`: five bits are below 32, so no sum leaves a byte; 0 and 20 are the space and the hyphen. Assumes nothing.
use borrow.Author.Tests.{eq-eqb, ne_eqb}
use Prim.Native.Nat.{◌%◌}
use Rattle.keywork.proofs.packed.character_of.Goals as goal

pub returns-then-k-eq0 : goal.returns-then-k-eq0
returns-then-k-eq0 c = rw (eq-eqb (c.args.n % 32 % 20) 0 c.if-k-eq0.true)

pub returns : goal.returns
returns c = rw (ne_eqb (c.args.n % 32 % 20) 0 c.if-k-eq0.false)
