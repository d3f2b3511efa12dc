use mathlib.Core.Path.{◌≡◌, refl, ◌∙◌}
use native.Mathlib.Omega.{arith}
use lib.ListN.{length-set}
use lib.Seq.{get_or-set_other}
use Rattle.keywork.proofs.WorkedLaws.{alone_none, alone_turn}
use Rattle.keywork.proofs.worked.work_alone.Goals as goal

pub loop-q-init : goal.loop-q-init
loop-q-init c =
    let a = c.args in
    (refl, (λ k h. refl), alone_none a.setting.state.now a.setting.year a.setting.locals.list.now a.batch.now a.p a.numbers.now a.e)

pub work_tagged-requires : goal.work_tagged-requires
work_tagged-requires c =
    let l = c.loop-q in
    rw (l.invariant.1 l.q (omega arith)) (c.requires.2 l.q l.auto.q c.loop-q-test.true)

pub loop-q-preserved : goal.loop-q-preserved
loop-q-preserved c =
    let w = c.work_tagged in
    let t = c.loop-q-test.true in
    let l = c.loop-q in
    let a = c.args in (
      length-set l.numbers l.q w.result ∙ l.invariant.0,
      (λ k h. get_or-set_other l.numbers l.q k w.result 0 (λ (z : k ≡ l.q). omega arith) ∙ l.invariant.1 k (omega arith)),
      alone_turn a.setting.state.now a.setting.year a.setting.locals.list.now a.batch.now a.p a.numbers.now a.e l.q l.numbers _ w.result
          l.auto.q t c.requires.1 (l.invariant.1 l.q (omega arith)) l.invariant.2 (rw c.no_case-none.ensures at w.ensures),
    )

pub returns : goal.returns
returns c =
    let a = c.args in
    let l = c.loop-q in
    let e : l.q ≡ a.e = omega (arith, c.loop-q-test.false, l.auto.q-end c.requires.0) in
    rw e at l.invariant.2
