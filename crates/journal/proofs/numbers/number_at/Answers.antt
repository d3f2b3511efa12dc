use Rattle.journal.proofs.ReadingLaws.{reading_end, reading_zero, reading_last, reading_next}
use mathlib.Core.Path.{refl}
use native.Mathlib.Omega.{arith}
use Rattle.journal.proofs.numbers.number_at.Goals as goal

pub returns-then-b-scale : goal.returns-then-b-scale
returns-then-b-scale c =
    let a = c.args in
    let l = c.loop-i in
    reading_zero a.s.now a.at l.n l.scale l.i l.invariant _ refl c.loop-i-test.true c.if-b-scale.true

pub returns-then-b-lt128 : goal.returns-then-b-lt128
returns-then-b-lt128 c =
    let a = c.args in
    let l = c.loop-i in
    reading_last a.s.now a.at l.n l.scale l.i l.invariant _ refl c.loop-i-test.true c.if-b-scale.false c.if-b-lt128.true

pub loop-i-preserved : goal.loop-i-preserved
loop-i-preserved c =
    let a = c.args in
    let l = c.loop-i in
    reading_next a.s.now a.at l.n l.scale l.i l.invariant _ refl c.loop-i-test.true c.if-b-lt128.false (omega (arith, c.type_inv.s l.i)) c.if-scale-ge268435456.false

pub returns : goal.returns
returns c =
    let a = c.args in
    let l = c.loop-i in
    reading_end a.s.now a.at l.n l.scale l.i l.invariant (omega (arith, c.loop-i-test.false))
