use mathlib.Core.Path.{◌≡◌, refl, ◌∙◌}
use native.Mathlib.Omega.{arith}
use lib.ListN.{length-set}
use lib.Seq.{get_or-set_other}
use Rattle.onecase.specs.Machine.{row_of}
use Rattle.judging.specs.Setting.{setting_of}
use Rattle.keywork.proofs.WorkedLaws.{run_none, run_turn}
use Rattle.keywork.proofs.worked.work_run.Goals as goal

pub loop-q-init : goal.loop-q-init
loop-q-init c =
    let a = c.args in (
      refl,
      (λ k h. refl),
      λ names kn mk.
          run_none (setting_of a.setting.state.now a.setting.year a.setting.locals.list.now names) a.batch.now a.p (row_of a.case) a.numbers.now,
    )

pub work_tagged-requires : goal.work_tagged-requires
work_tagged-requires c =
    let l = c.loop-q in
    rw (l.invariant.1 l.q (omega arith)) (c.requires.2 l.q l.auto.q c.loop-q-test.true)

pub loop-q-preserved : goal.loop-q-preserved
loop-q-preserved c =
    let w = c.work_tagged in
    let t = c.loop-q-test.true in
    let l = c.loop-q in
    let a = c.args in (
      length-set l.numbers l.q w.result ∙ l.invariant.0,
      (λ k h. get_or-set_other l.numbers l.q k w.result 0 (λ (z : k ≡ l.q). omega arith) ∙ l.invariant.1 k (omega arith)),
      run_turn a.setting.state.now a.setting.year a.setting.locals.list.now a.batch.now a.p a.e l.q (row_of a.case) (row_of l.left) _ a.numbers.now l.numbers w.result
          l.auto.q t c.requires.1 (l.invariant.1 l.q (omega arith)) l.invariant.2 w.ensures,
    )

pub returns : goal.returns
returns c =
    let a = c.args in
    let l = c.loop-q in
    let e : l.q ≡ a.e = omega (arith, c.loop-q-test.false, l.auto.q-end c.requires.0) in
    rw e at l.invariant.2
