-- `restoring::row_kept`: a row that stays at its place or is moved down stands behind those restored before it. Assumes nothing.
use Rattle.takeback.proofs.RestoringLaws.{stays_put, kept_restored}
use mathlib.Core.Path.{refl}
use native.Mathlib.Omega.{arith}
use Rattle.takeback.proofs.restoring.row_kept.Goals as goal

pub returns-then-p-to : goal.returns-then-p-to
returns-then-p-to c =
    let a = c.args in
    let q = c.requires in
    λ g h. kept_restored a.m.now a.p a.journal.now a.s a.m.now _ (stays_put a.m.now a.p a.s.to c.if-p-to.true q.0) refl refl q.1 q.2 g h

pub put_row-requires : goal.put_row-requires
put_row-requires c = omega (arith, c.requires.0, c.requires.1)

pub returns : goal.returns
returns c =
    let a = c.args in
    let q = c.requires in
    λ g h. kept_restored a.m.now a.p a.journal.now a.s _ _ (rw c.row_at-row.ensures at c.put_row.ensures) refl refl q.1 q.2 g h
