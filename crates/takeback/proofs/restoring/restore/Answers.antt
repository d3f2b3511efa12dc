use Rattle.takeback.proofs.RestoringLaws.{restoring_none, restoring_next, restoring_end}
use mathlib.Core.Path.{refl}
use native.Mathlib.Omega.{arith}
use Rattle.takeback.proofs.restoring.restore.Goals as goal

pub loop-p-init : goal.loop-p-init
loop-p-init c =
    let a = c.args in
    restoring_none a.m.now a.n a.journal.now a.at _ refl refl c.requires.n_in_bounds.1 c.requires.can_restore

pub loop-p-preserved : goal.loop-p-preserved
loop-p-preserved c =
    let a = c.args in
    let l = c.loop-p in
    restoring_next a.m.now a.n a.journal.now a.at l.m l.s l.p l.invariant c.loop-p-test.true _ _ c.place_restored-s.ensures

pub returns : goal.returns
returns c =
    let a = c.args in
    let l = c.loop-p in
    restoring_end a.m.now a.n a.journal.now a.at l.m l.s l.p l.invariant (omega (arith, c.loop-p-test.false))
