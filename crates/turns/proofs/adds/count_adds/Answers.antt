use native.Mathlib.Omega.{arith}
use Rattle.turns.proofs.AddLaws.{adds-next, adds_end}
use Rattle.turns.proofs.adds.count_adds.Goals as goal

pub overflow_add-count : goal.overflow_add-count
overflow_add-count c =
    omega (arith, c.one_if-count.ensures.1, c.loop-i.invariant.0, c.requires)

pub loop-i-preserved : goal.loop-i-preserved
loop-i-preserved c =
    let a = c.args in
    let l = c.loop-i in
    let s = adds-next a.batch.now a.d l.i c.loop-i-test.true in
    let e = rw c.is_add.ensures at c.one_if-count.ensures.0 in
    (omega (arith, l.invariant.0, c.one_if-count.ensures.1), omega (arith, l.invariant.1, s, e))

pub returns : goal.returns
returns c =
    let a = c.args in
    let l = c.loop-i in
    let e = adds_end a.batch.now a.d l.i c.loop-i-test.false in
    (omega (arith, l.invariant.1, e), omega (arith, l.invariant.0))
