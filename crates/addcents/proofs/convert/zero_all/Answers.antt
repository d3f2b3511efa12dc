use mathlib.Core.Path.{◌≡◌}
use native.Mathlib.Omega.{arith}
use Rattle.addcents.proofs.ConvertLaws.{zeroed_none, zeroed_next}
use Rattle.addcents.proofs.convert.zero_all.Goals as goal

pub loop-i-init : goal.loop-i-init
loop-i-init c = zeroed_none c.args.m.now

pub loop-i-preserved : goal.loop-i-preserved
loop-i-preserved c =
    let l = c.loop-i in
    zeroed_next c.args.m.now l.m _ l.i (omega arith) l.invariant c.zero_at.ensures

pub returns : goal.returns
returns c =
    let l = c.loop-i in
    let e : l.i ≡ c.args.n = omega arith in
    rw e at l.invariant
