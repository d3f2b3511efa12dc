-- `ssn::wrong_ssn_in` meets its contract: what isn't nine digits is wrong, and nine digits that are all zero aren't issued. Assumes nothing.
use mathlib.Core.Bool.{true, false}
use mathlib.Core.Path.{◌≡◌, sym, ◌∙◌}
use native.Mathlib.Omega.{arith}
use lib.Dec.{eqb}
use lib.ListN.{take}
use lib.Seq.{length-take-le}
use Rattle.text.specs.Fields.{are_digits}
use Rattle.text.proofs.ByteNumberLaws.{bytes_take}
use Rattle.layout.specs.Ssn.{area, group, serial, wrong_ssn}
use Rattle.layout.proofs.SsnLaws.{zero_unissued, digits_known}
use Rattle.layout.proofs.ssn.wrong_ssn_in.Goals as goal

pub returns-then-are_eight_digits-last : goal.returns-then-are_eight_digits-last
unfolding wrong_ssn
returns-then-are_eight_digits-last c = λ s l a e f.
    let d = c.are_eight_digits in
    let t : are_digits 9 s ≡ true =
    sym (digits_known s l d.result c.args.last (d.ensures (take 8 s) (length-take-le 8 s (omega arith)) (bytes_take 8 s a) e) f)
    ∙ c.if-are_eight_digits-last.true in
    c.is_unissued.ensures s t e f ∙ sym (rw t (zero_unissued s (eqb (area s) 666) (eqb (group s) 0) (eqb (serial s) 0)))

pub returns-else-are_eight_digits-last : goal.returns-else-are_eight_digits-last
unfolding wrong_ssn
returns-else-are_eight_digits-last c = λ s l a e f.
    let d = c.are_eight_digits in
    let t : are_digits 9 s ≡ false =
    sym (digits_known s l d.result c.args.last (d.ensures (take 8 s) (length-take-le 8 s (omega arith)) (bytes_take 8 s a) e) f)
    ∙ c.if-are_eight_digits-last.false in
    rw t
