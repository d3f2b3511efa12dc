-- `ssn::wrong_ssn` meets its contract: nine bytes by the number of the first eight and the last. Assumes nothing.
use mathlib.Core.Path.{refl}
use native.Mathlib.Omega.{arith}
use borrow.Author.Tests.{ne_eqb}
use Rattle.text.specs.Fields.{are_digits}
use Rattle.layout.specs.Ssn.{wrong_ssn}
use Rattle.text.proofs.ByteNumberLaws.{bytes_of}
use Rattle.layout.proofs.ssn.wrong_ssn.Goals as goal

pub returns-then-s-ne9 : goal.returns-then-s-ne9
unfolding wrong_ssn are_digits
returns-then-s-ne9 c = rw (ne_eqb _ _ c.if-s-ne9.true)

pub overflow_cast-s : goal.overflow_cast-s
overflow_cast-s c = omega (arith, c.shared_slice_known-2-1.given 8)

pub returns : goal.returns
returns c =
    let s = c.args.s.now in
    let b = bytes_of s (λ i h. omega (arith, c.shared_slice_known-2-1.given i)) in
    c.wrong_ssn_in.ensures s c.if-s-ne9.false b c.eight_number.ensures refl
