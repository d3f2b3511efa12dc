-- `fields::field` meets its contract: the slice from index first - 1 to last is as wide as the columns. Assumes nothing.
use mathlib.Core.Path.{◌≡◌}
use Prim.Native.Nat.{◌+◌, ◌-◌}
use native.Mathlib.Omega.{arith}
use Rattle.text.proofs.fields.field.Goals as goal

pub returns : goal.returns
returns c =
    let a = c.args.c in
    let p = c.requires in
    let w : a.last - (a.first - 1) ≡ a.last + 1 - a.first = omega (arith, p.low, p.ordered) in
    rw w
