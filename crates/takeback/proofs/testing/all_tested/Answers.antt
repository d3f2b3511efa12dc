use Rattle.takeback.proofs.TestingLaws.{testing_none, testing_stop, testing_next, testing_left, testing_end}
use mathlib.Core.Path.{refl}
use Rattle.takeback.proofs.testing.all_tested.Goals as goal

pub loop-p-init : goal.loop-p-init
loop-p-init c =
    let a = c.args in
    testing_none a.m.now a.n a.journal.now a.before a.at _ refl refl refl c.requires.2

pub returns-in_default : goal.returns-in_default
returns-in_default c =
    let a = c.args in
    let l = c.loop-p in
    let q = c.requires in
    testing_stop a.m.now a.n a.journal.now a.before a.at l.s l.p l.invariant q.1 q.3 c.loop-p-test.true (rw c.in_default.is at c.place_tested.ensures)

pub loop-p-preserved : goal.loop-p-preserved
loop-p-preserved c =
    let a = c.args in
    let l = c.loop-p in
    let q = c.requires in
    testing_next a.m.now a.n a.journal.now a.before a.at l.s l.p l.invariant q.1 q.3 c.loop-p-test.true c.in-Some.next (rw c.in-Some.is at c.place_tested.ensures)

pub returns-then-end-journal : goal.returns-then-end-journal
returns-then-end-journal c =
    let a = c.args in
    let l = c.loop-p in
    testing_left a.m.now a.n a.journal.now a.before a.at l.s l.p l.invariant c.loop-p-test.false c.if-end-journal.true

pub returns : goal.returns
returns c =
    let a = c.args in
    let l = c.loop-p in
    testing_end a.m.now a.n a.journal.now a.before a.at l.s l.p l.invariant c.loop-p-test.false c.if-end-journal.false
