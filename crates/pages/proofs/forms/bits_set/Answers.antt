-- `forms::bits_set`: a byte has at most eight bits set. Assumes nothing.
use native.Mathlib.Omega.{arith}
use Prim.Native.Nat.{◌<◌}
use lib.Count.{ones-le}
use borrow.Author.Rules.{rules}
use Rattle.pages.proofs.forms.bits_set.Goals as goal

pub overflow_cast-result : goal.overflow_cast-result
overflow_cast-result c =
    let h : c.args.set < 256 = search rules in
    omega (arith, ones-le 8 c.args.set h)
