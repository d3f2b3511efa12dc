-- `row::has_arrearage_digits` meets its contract: the eight bytes as one number. Assumes nothing.
use native.Mathlib.Omega.{arith}
use lib.ListN.{drop, length-take, length-drop}
use Rattle.text.specs.Fields.{columns}
use Rattle.text.proofs.ByteNumberLaws.{bytes_of, bytes_take, bytes_drop}
use Rattle.casemaster.proofs.row.has_arrearage_digits.Goals as goal

pub returns : goal.returns
returns c =
    let row = c.args.row.now in
    let b = bytes_of row (λ i h. omega (arith, c.shared_slice_known-1.given i)) in
    c.are_eight_digits.ensures (columns 66 73 row) (simp (length-take, length-drop) (omega arith)) (bytes_take 8 (drop 65 row) (bytes_drop 65 row b))
    c.eight_number.ensures
