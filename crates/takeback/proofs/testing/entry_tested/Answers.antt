-- `testing::entry_tested`: each way out is one law of the tests that are left at a place. Assumes nothing.
use Rattle.takeback.proofs.PlaceLaws.{no_entry_tested, low_tested, kept_tested, old_tested, new_tested}
use Rattle.journal.specs.Reading.{EntryFound}
use native.Mathlib.Omega.{arith}
use mathlib.Core.Path.{refl}
use Rattle.takeback.proofs.testing.entry_tested.Goals as goal

pub returns-in_err-e : goal.returns-in_err-e
returns-in_err-e c =
    let a = c.args in
    rw c.from_residual.ensures (no_entry_tested a.m.now a.p a.journal.now a.s (rw c.in_err-e.was at c.entry_at.ensures) c.requires.1)

pub returns-then-place-p : goal.returns-then-place-p
returns-then-place-p c =
    let a = c.args in
    low_tested a.m.now a.p a.journal.now a.s c.in_ok-e.e (rw c.in_ok-e.was at c.entry_at.ensures) c.if-place-p.true

pub returns-then-p-place : goal.returns-then-p-place
returns-then-p-place c =
    let a = c.args in
    kept_tested a.m.now a.p a.journal.now a.s c.in_ok-e.e (rw c.in_ok-e.was at c.entry_at.ensures) _ c.if-p-place.true c.followed.ensures (omega (arith, c.requires.1))

pub old_followed-requires : goal.old_followed-requires
old_followed-requires c =
    let a = c.args in
    let f : EntryFound a.s.at a.journal.now c.in_ok-e.e.place c.in_ok-e.e.old c.in_ok-e.e.next = rw c.in_ok-e.was at c.entry_at.ensures in
    f.row_inside c.in-Some.o c.in-Some.is

pub returns-in-Some : goal.returns-in-Some
returns-in-Some c =
    let a = c.args in
    old_tested a.m.now a.p a.journal.now a.s c.in_ok-e.e (rw c.in_ok-e.was at c.entry_at.ensures) (omega (arith, c.if-place-p.false, c.if-p-place.false))
    c.in-Some.o c.in-Some.is _ c.old_followed.ensures

pub returns-in-None : goal.returns-in-None
returns-in-None c =
    let a = c.args in
    new_tested a.m.now a.p a.journal.now a.s c.in_ok-e.e (rw c.in_ok-e.was at c.entry_at.ensures) (omega (arith, c.if-place-p.false, c.if-p-place.false))
    c.in-None.is _ refl refl (λ last il. il)
