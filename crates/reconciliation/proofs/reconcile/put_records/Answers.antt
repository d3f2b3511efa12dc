use mathlib.Core.Path.{◌≡◌}
use Prim.Native.Nat.{◌<◌}
use native.Mathlib.Omega.{arith}
use lib.ListN.{length, take, length-take, length-drop}
use Rattle.reconciliation.proofs.ReconcileLaws.{writing_start, writing_room, writing_next, writing_end, walk-length, walk_row}
use Rattle.reconciliation.proofs.reconcile.put_records.Goals as goal
use Rattle.reconciliation.proofs.reconcile.put_records.Goals.{After-as_chunks, In-loop-row}

-- the walk has n turns
turns : (c : After-as_chunks) → length (take c.args.n c.as_chunks.result.0.now) ≡ c.args.n
turns c = walk-length c.args.n c.args.m.now _ c.as_chunks.ensures.front c.requires.0

inside : (c : In-loop-row) → c.loop-row.row-index < c.args.n
inside c = omega (arith, turns (goal.at.In-loop-row c).After-as_chunks)

pub loop-row-init : goal.loop-row-init
loop-row-init c =
    let a = c.args in
    writing_start a.state.now a.n a.m.now a.out.now

pub put_record-k-requires : goal.put_record-k-requires
put_record-k-requires c =
    let a = c.args in
    let l = c.loop-row in
    let h = inside (goal.at.put_record-k-requires c).In-loop-row in
    let e = walk_row a.n a.m.now _ c.as_chunks.ensures.front c.requires.0 l.row-index h in (
      rw e (simp (length-take, length-drop) (omega arith)),
      rw e (writing_room a.state.now a.n a.m.now l.invariant h c.requires.1),
    )

pub loop-row-preserved : goal.loop-row-preserved
loop-row-preserved c =
    let a = c.args in
    let l = c.loop-row in
    let p = c.put_record-k in
    let h = inside (goal.at.loop-row-preserved c).In-loop-row in
    let e = walk_row a.n a.m.now _ c.as_chunks.ensures.front c.requires.0 l.row-index h in
    writing_next a.state.now a.n a.m.now l.invariant p.new.out p.result h p.auto.out (rw e at p.ensures)

pub shape_of-out : goal.shape_of-out
shape_of-out c = c.loop-row.invariant.wide

pub returns : goal.returns
returns c =
    let a = c.args in
    writing_end a.state.now a.n a.m.now c.loop-row.invariant (omega (arith, turns (goal.at.returns c).After-as_chunks))
