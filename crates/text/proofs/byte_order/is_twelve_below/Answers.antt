-- `byte_order::is_twelve_below` meets its contract: both by their numbers. Assumes nothing.
use native.Mathlib.Omega.{arith}
use Rattle.text.proofs.ByteNumberLaws.{bytes_of}
use Rattle.text.proofs.byte_order.is_twelve_below.Goals as goal

pub returns : goal.returns
returns c =
    let a = c.args.a.now in
    let b = c.args.b.now in
    let p = bytes_of a (λ i h. omega (arith, c.type_inv.a i)) in
    let q = bytes_of b (λ i h. omega (arith, c.type_inv.b i)) in
    c.is_twelve_below_in.ensures a b c.requires.0 c.requires.1 p q c.eight_number-front1.ensures
    c.four_number.ensures.0 c.eight_number-front2.ensures c.four_number-2.ensures.0
