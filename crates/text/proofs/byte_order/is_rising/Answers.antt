use mathlib.Core.Path.{sym, ◌∙◌}
use native.Mathlib.Omega.{arith}
use Rattle.text.proofs.ByteOrderLaws.{pass_on, pass_stop, pass_end}
use Rattle.text.proofs.byte_order.is_rising.Goals as goal

pub returns-then-not-is_below : goal.returns-then-not-is_below
returns-then-not-is_below c =
    let l = c.loop-i in
    let a = c.args in
    sym
    (sym l.invariant
    ∙ pass_stop a.key a.width a.n a.m.now c.requires.1 c.is_below.result l.i (omega arith) (omega arith) c.is_below.ensures (cc))

pub loop-i-preserved : goal.loop-i-preserved
loop-i-preserved c =
    let l = c.loop-i in
    let a = c.args in
    pass_on a.key a.width a.n a.m.now c.requires.1 c.is_below.result l.i (omega arith) (omega arith) c.is_below.ensures (cc) ∙ l.invariant

pub returns : goal.returns
returns c =
    let l = c.loop-i in
    let a = c.args in
    sym (sym l.invariant ∙ pass_end a.key a.width a.n a.m.now l.i (omega arith))
