use Rattle.contactupdate.specs.KeyNumbers.{held_in}
use Rattle.contactupdate.specs.Merging.{held_finally}
use Rattle.contactupdate.proofs.MergingLaws.{merging_start, merging_end, turn_small, turn_old, turn_new, turn_file, turn_olds, turn_next}
use Rattle.contacttable.specs.Table.{contacts_of}
use Prim.Native.Nat.{suc, ◌-◌}
use native.Mathlib.Omega.{arith}
use mathlib.Core.Path.{◌≡◌}
use Rattle.contactupdate.proofs.merging.merge.Goals as goal

pub loop-k-init : goal.loop-k-init
loop-k-init c =
    let a = c.args in
    merging_start (held_in (contacts_of a.count a.table.now)) (held_finally a.table.now a.count a.file.now a.lasts.now) 54000 a.total a.table.now a.count c.requires.table_is c.requires.total_is c.requires.room

pub overflow_cast-o : goal.overflow_cast-o
overflow_cast-o c =
    let a = c.args in
    let l = c.loop-k in
    let t = c.loop-k-test.true in
    omega (arith, turn_small a.table.now a.count a.total a.file.now a.held.now a.lasts.now c.requires l.k (l.k - 1) l.o l.p l.table (omega arith) (omega arith) l.invariant)

pub overflow_sub-o : goal.overflow_sub-o
overflow_sub-o c =
    let a = c.args in
    let l = c.loop-k in
    let t = c.loop-k-test.true in
    turn_old a.table.now a.count a.total a.file.now a.held.now a.lasts.now c.requires l.k (l.k - 1) l.o l.p l.table (omega arith) (omega arith) l.invariant

pub overflow_sub-p : goal.overflow_sub-p
overflow_sub-p c =
    let a = c.args in
    let l = c.loop-k in
    let t = c.loop-k-test.true in
    rw c.present-p.ensures (turn_new a.table.now a.count a.total a.file.now a.held.now a.lasts.now c.requires l.k (l.k - 1) l.o l.p l.table (omega arith) (omega arith) l.invariant)

pub place_record-requires : goal.place_record-requires
place_record-requires c =
    let a = c.args in
    let l = c.loop-k in
    let t = c.loop-k-test.true in
    let e : l.k ≡ suc (l.k - 1) = omega arith in
    let h = turn_small a.table.now a.count a.total a.file.now a.held.now a.lasts.now c.requires l.k (l.k - 1) l.o l.p l.table e (omega arith) l.invariant in
    let f = turn_file a.table.now a.count a.total a.file.now a.held.now a.lasts.now c.requires l.k (l.k - 1) l.o l.p l.table e (omega arith) l.invariant in
    let o = turn_old a.table.now a.count a.total a.file.now a.held.now a.lasts.now c.requires l.k (l.k - 1) l.o l.p l.table e (omega arith) l.invariant in
    let w = turn_olds a.table.now a.count a.total a.file.now a.held.now a.lasts.now c.requires l.k (l.k - 1) l.o l.p l.table e (omega arith) l.invariant in
    let p = turn_new a.table.now a.count a.total a.file.now a.held.now a.lasts.now c.requires l.k (l.k - 1) l.o l.p l.table e (omega arith) l.invariant in
    (h, f, omega (arith, o, w), rw c.present-p.ensures (omega (arith, p, l.invariant.room)))

pub loop-k-preserved : goal.loop-k-preserved
loop-k-preserved c =
    let a = c.args in
    let l = c.loop-k in
    let t = c.loop-k-test.true in
    let e : l.k ≡ suc (l.k - 1) = omega arith in
    let h = turn_small a.table.now a.count a.total a.file.now a.held.now a.lasts.now c.requires l.k (l.k - 1) l.o l.p l.table e (omega arith) l.invariant in
    rw (c.place_record.ensures, c.present-p.ensures) (turn_next a.table.now a.count a.total a.file.now a.held.now a.lasts.now c.requires l.k (l.k - 1) l.o l.p l.table e (omega arith) l.invariant)

pub returns : goal.returns
returns c =
    let a = c.args in
    let l = c.loop-k in
    let z : l.k ≡ 0 = omega (arith, c.loop-k-test.false) in
    merging_end (held_in (contacts_of a.count a.table.now)) (held_finally a.table.now a.count a.file.now a.lasts.now) 54000 a.total a.table.now l.o l.p l.table (rw z at l.invariant) c.requires.room
