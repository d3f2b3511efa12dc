-- `words::are_eight_spaces` meets its contract: the comparison is made byte by byte. Assumes nothing.
use native.Mathlib.Omega.{arith}
use lib.ListN.{take, drop, length-take, length-drop}
use Rattle.text.proofs.ByteNumberLaws.{bytes_of, bytes_take, bytes_drop}
use Rattle.text.proofs.WordLaws.{eight_spaces}
use Rattle.text.proofs.words.are_eight_spaces.Goals as goal

pub returns : goal.returns
returns c =
    let x = c.args in
    let a = x.a.now in
    let b = bytes_of a (λ i h. omega (arith, c.type_inv.a i)) in
    rw c.eight_number.ensures
    (eight_spaces (take 8 (drop x.i a)) (simp (length-take, length-drop) (omega arith)) (bytes_take 8 (drop x.i a) (bytes_drop x.i a b)))
