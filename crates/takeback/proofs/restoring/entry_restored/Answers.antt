-- `restoring::entry_restored`: an entry of a later place keeps the row, one of this place leaves it out or puts the old row in. Assumes
-- nothing.
use Rattle.takeback.proofs.RestoringLaws.{must_find, is_later, new_restored, old_restored}
use Rattle.journal.specs.Reading.{EntryFound}
use mathlib.Core.Path.{refl}
use lib.ListN.{length-take, length-drop}
use native.Mathlib.Omega.{arith}
use Rattle.takeback.proofs.restoring.entry_restored.Goals as goal

pub unwrap-e-requires : goal.unwrap-e-requires
unwrap-e-requires c =
    let a = c.args in
    must_find a.journal.now a.s.at a.p c.requires.can_restore c.requires.p_in_bounds.2 c.entry_at.result c.entry_at.ensures

pub returns-then-e-p : goal.returns-then-e-p
returns-then-e-p c =
    let a = c.args in
    λ g. c.row_kept.ensures g (is_later a.journal.now a.s.at a.p g c.unwrap-e.result (rw c.unwrap-e.ensures at c.entry_at.ensures) c.if-e-p.true)

pub returns-in_default : goal.returns-in_default
returns-in_default c =
    let a = c.args in
    let q = c.requires in
    λ g. new_restored a.m.now a.p a.journal.now a.s a.m.now _ c.unwrap-e.result (rw c.unwrap-e.ensures at c.entry_at.ensures) c.if-e-p.false q.p_in_bounds.1 g c.in_default.is refl refl refl

pub overflow_add-end : goal.overflow_add-end
overflow_add-end c =
    let a = c.args in
    let e = c.unwrap-e.result in
    let f : EntryFound a.s.at a.journal.now e.place e.old e.next = rw c.unwrap-e.ensures at c.entry_at.ensures in
    omega (arith, f.row_inside c.in-Some.o c.in-Some.is)

pub slice_bounds-copy_in-end : goal.slice_bounds-copy_in-end
slice_bounds-copy_in-end c =
    let a = c.args in
    let e = c.unwrap-e.result in
    let f : EntryFound a.s.at a.journal.now e.place e.old e.next = rw c.unwrap-e.ensures at c.entry_at.ensures in
    omega (arith, f.row_inside c.in-Some.o c.in-Some.is)

pub copy_in-requires : goal.copy_in-requires
copy_in-requires c =
    let q = c.requires in
    simp (length-take, length-drop) (omega (arith, q.p_in_bounds.0, q.p_in_bounds.1))

pub returns : goal.returns
returns c =
    let a = c.args in
    let q = c.requires in
    λ g. old_restored a.m.now a.p a.journal.now a.s _ _ c.unwrap-e.result (rw c.unwrap-e.ensures at c.entry_at.ensures) c.if-e-p.false q.p_in_bounds.1 g c.in-Some.o c.in-Some.is c.copy_in.ensures q.p_in_bounds.0 refl refl
