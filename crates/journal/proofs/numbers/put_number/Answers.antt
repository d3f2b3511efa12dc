use lib.ListN.{length-set}
use Rattle.journal.proofs.ReadingLaws.{putting_none, putting_next, inside_high, inside_low, put_last, put_end}
use mathlib.Core.Path.{refl, ◌∙◌}
use native.Mathlib.Omega.{arith}
use Rattle.journal.proofs.numbers.put_number.Goals as goal

pub loop-left-init : goal.loop-left-init
loop-left-init c = putting_none c.args.out.now c.args.at c.args.n c.requires

pub bounds-out-i : goal.bounds-out-i
bounds-out-i c =
    let a = c.args in
    let l = c.loop-left in
    inside_high a.out.now a.at a.n l.out l.left l.i l.invariant c.loop-left-test.true

pub overflow_add-i : goal.overflow_add-i
overflow_add-i c =
    let a = c.args in
    let l = c.loop-left in
    omega (arith, inside_high a.out.now a.at a.n l.out l.left l.i l.invariant c.loop-left-test.true, l.invariant.same_length)

pub loop-left-preserved : goal.loop-left-preserved
loop-left-preserved c =
    let a = c.args in
    let l = c.loop-left in
    putting_next a.out.now a.at a.n l.out l.left l.i l.invariant c.loop-left-test.true _ refl

pub bounds-out-i-2 : goal.bounds-out-i-2
bounds-out-i-2 c =
    let a = c.args in
    let l = c.loop-left in
    inside_low a.out.now a.at a.n l.out l.left l.i l.invariant (omega arith)

pub overflow_add-result : goal.overflow_add-result
overflow_add-result c =
    let a = c.args in
    let l = c.loop-left in
    omega (arith, inside_low a.out.now a.at a.n l.out l.left l.i l.invariant (omega arith), l.invariant.same_length)

pub shape_of-out : goal.shape_of-out
shape_of-out c =
    let a = c.args in
    let l = c.loop-left in
    length-set l.out l.i l.left ∙ l.invariant.same_length

pub returns : goal.returns
returns c =
    let a = c.args in
    let l = c.loop-left in
    (put_end a.out.now a.at a.n l.out l.left l.i l.invariant (omega arith), put_last a.out.now a.at a.n l.out l.left l.i l.invariant (omega arith))
