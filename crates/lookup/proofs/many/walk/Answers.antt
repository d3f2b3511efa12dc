use native.Mathlib.Omega.{arith}
use Rattle.lookup.proofs.WalkLaws.{going_none, going_all, going_end, going_less, going_equal, going_greater}
use Rattle.lookup.proofs.many.walk.Goals as goal

pub loop-i-init : goal.loop-i-init
loop-i-init c =
    let a = c.args in
    going_none a.m.now a.n a.keys.now a.k a.places.now

pub loop-i-preserved-then-p-n : goal.loop-i-preserved-then-p-n
loop-i-preserved-then-p-n c =
    let a = c.args in
    let l = c.loop-i in
    going_end a.m.now a.n a.keys.now a.k a.places.now l.places l.comparisons l.p l.i l.invariant c.loop-i-test.true c.requires.3 c.if-p-n.true

pub loop-i-preserved-in-Less : goal.loop-i-preserved-in-Less
loop-i-preserved-in-Less c =
    let a = c.args in
    let l = c.loop-i in
    going_less a.m.now a.n a.keys.now a.k a.places.now l.places l.comparisons l.p l.i l.invariant c.loop-i-test.true c.requires.3 (omega arith) c.compare.result c.compare.ensures c.in-Less.is

pub loop-i-preserved-in-Equal : goal.loop-i-preserved-in-Equal
loop-i-preserved-in-Equal c =
    let a = c.args in
    let l = c.loop-i in
    going_equal a.m.now a.n a.keys.now a.k a.places.now l.places l.comparisons l.p l.i l.invariant c.loop-i-test.true c.requires.3 (omega arith) c.compare.result c.compare.ensures c.in-Equal.is

pub loop-i-preserved : goal.loop-i-preserved
loop-i-preserved c =
    let a = c.args in
    let l = c.loop-i in
    going_greater a.m.now a.n a.keys.now a.k a.places.now l.places l.comparisons l.p l.i l.invariant c.loop-i-test.true c.requires.3 (omega arith) c.compare.result c.compare.ensures c.in-Greater.is

pub returns : goal.returns
returns c =
    let a = c.args in
    let l = c.loop-i in
    going_all a.m.now a.n a.keys.now a.k a.places.now l.places l.comparisons l.p l.i l.invariant (omega arith)
