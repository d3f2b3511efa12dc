-- `reconcile::put_record`: a row that is reported appends its record as one block more, another leaves the buffer. Assumes nothing.
use mathlib.Core.Bool.{true}
use mathlib.Core.Path.{◌≡◌, sym, ap, ◌∙◌}
use Prim.Native.Nat.{◌+◌, ◌*◌, ◌≤◌}
use native.Mathlib.Omega.{arith}
use lib.ListN.{length, length-take, length-drop}
use borrow.Author.Tests.{not-true, not-false}
use Rattle.reconciliation.specs.Reconcile.{is_reported}
use Rattle.reconciliation.proofs.ReconcileLaws.{rec_one, put_none, put_one}
use Rattle.reconciliation.proofs.reconcile.put_record.Goals as goal
use Rattle.reconciliation.proofs.reconcile.put_record.Goals.{Else-not-is_reported}

-- the row is reported where the answer isn't given at once
reported : (c : Else-not-is_reported) → is_reported c.args.state.now c.args.row.now ≡ true
reported c = sym c.is_reported.ensures ∙ not-false _ c.if-not-is_reported.false-raw

pub returns-then-not-is_reported : goal.returns-then-not-is_reported
returns-then-not-is_reported c =
    let a = c.args in
    put_none a.state.now a.row.now a.out.now a.k (sym c.is_reported.ensures ∙ not-true _ c.if-not-is_reported.true-raw)

pub slice_bounds-fill_rec-end : goal.slice_bounds-fill_rec-end
slice_bounds-fill_rec-end c =
    let e = ap length (rec_one c.args.state.now c.args.row.now (reported (goal.at.slice_bounds-fill_rec-end c).Else-not-is_reported)) in
    omega arith

pub returns : goal.returns
returns c =
    let a = c.args in
    let p = c.fill_rec in
    let e = ap length (rec_one a.state.now a.row.now (reported (goal.at.returns c).Else-not-is_reported)) in
    let l : a.k * 245 + 245 ≤ length a.out.now = omega arith in
    let w : length p.new.rec ≡ 245 = p.auto.rec ∙ simp (length-take, length-drop) (omega arith) in
    put_one a.state.now a.row.now p.new.rec a.out.now a.k (reported (goal.at.returns c).Else-not-is_reported) p.ensures w l
