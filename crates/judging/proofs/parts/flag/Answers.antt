-- `parts::flag` meets its contract: 2 to the power of a code below 64 is a shift that loses no bit. Assumes nothing.
use mathlib.Core.Path.{◌≡◌, ◌∙◌}
use Prim.Native.Nat.{◌+◌, ◌*◌, ◌^◌, ◌%◌, ◌≤◌}
use native.Mathlib.Nat.{le_refl}
use native.Mathlib.Omega.{arith}
use lib.Dec.{lit<}
use lib.Pow.{shl_exact}
use Rattle.judging.proofs.parts.flag.Goals as goal

pub returns-then-holds : goal.returns-then-holds
returns-then-holds c =
    let k = c.args.number in
    let h : 1 + k ≤ 64 = omega arith in
    let e : 1 * 2 ^ k % 2 ^ 64 ≡ 2 ^ k = shl_exact 1 k 64 (lit< tt) h ∙ omega arith in
    rw (e, c.if-holds.true) (omega arith, le_refl _)
