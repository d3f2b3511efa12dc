use mathlib.Core.Bool.{Bool, cond, ◌&&◌}
use mathlib.Core.List.{List, []}
use mathlib.Core.Path.{◌≡◌, ap, ◌∙◌}
use Prim.Native.Nat.{ℕ, ◌≤◌, ◌<◌}
use native.Mathlib.Omega.{arith}
use lib.Dec.{eqb}
use lib.ListN.{length, get_or, take, drop}
use Rattle.reconciliation.specs.Reconcile.{is_reported, rec_records}
use Rattle.text.specs.Characters.{A, N}
use Rattle.casemaster.specs.Master.{rows_of, row_in}
use Rattle.reconciliation.proofs.ReconcileLaws.{count_next, reported_next, rec_end, reported_end, walk-length, walk_row}
use Rattle.reconciliation.proofs.reconcile.count_cases.Goals as goal
use Rattle.reconciliation.proofs.reconcile.count_cases.Goals.{After-as_chunks, In-loop-row}

-- the walk has n turns
turns : (c : After-as_chunks) → length (take c.args.n c.as_chunks.result.0.now) ≡ c.args.n
turns c = walk-length c.args.n c.args.m.now _ c.as_chunks.ensures.front c.requires

inside : (c : In-loop-row) → c.loop-row.row-index < c.args.n
inside c = omega (arith, turns (goal.at.In-loop-row c).After-as_chunks)

pub overflow_add-total : goal.overflow_add-total
overflow_add-total c = omega (arith, inside (goal.at.overflow_add-total c).In-loop-row)

pub overflow_add-tanf : goal.overflow_add-tanf
overflow_add-tanf c = omega (arith, inside (goal.at.overflow_add-tanf c).In-loop-row)

pub overflow_add-non_tanf : goal.overflow_add-non_tanf
overflow_add-non_tanf c = omega (arith, inside (goal.at.overflow_add-non_tanf c).In-loop-row)

pub loop-row-preserved : goal.loop-row-preserved
loop-row-preserved c =
    let a = c.args in
    let s = a.state.now in
    let m = a.m.now in
    let l = c.loop-row in
    let i = l.row-index in
    let h = inside (goal.at.loop-row-preserved c).In-loop-row in
    let row : List ℕ = row_in m i in
    let p : get_or (take a.n c.as_chunks.result.0.now) i [] ≡ row = walk_row a.n m _ c.as_chunks.ensures.front c.requires i h in
    let r : c.is_reported-reported.result ≡ is_reported s row = c.is_reported-reported.ensures ∙ ap (is_reported s) p in
    let e1 : c.one_if-total.result ≡ cond (is_reported s row) 1 0 = c.one_if-total.ensures.0 ∙ ap (λ (b : Bool). cond b 1 0) r in
    let e2 : c.one_if-tanf.result ≡ cond (is_reported s row && eqb (get_or row 11 0) A) 1 0 = rw (← r, ← p) c.one_if-tanf.ensures.0 in
    let e3 : c.one_if-non_tanf.result ≡ cond (is_reported s row && eqb (get_or row 11 0) N) 1 0 = rw (← r, ← p) c.one_if-non_tanf.ensures.0 in (
      omega (arith, c.one_if-total.ensures.1),
      omega (arith, c.one_if-tanf.ensures.1),
      omega (arith, c.one_if-non_tanf.ensures.1),
      omega (arith, count_next s a.n m i h),
      omega (arith, reported_next s a.n m i A h),
      omega (arith, reported_next s a.n m i N h),
    )

pub returns : goal.returns
returns c =
    let a = c.args in
    let s = a.state.now in
    let m = a.m.now in
    let i = c.loop-row.row-index in
    let t : a.n ≤ i = omega (arith, turns (goal.at.returns c).After-as_chunks) in
    let z : length (rec_records s (drop i (rows_of a.n m))) ≡ 0 = ap length (rec_end s a.n m i t) in
    record {
      total_value = omega arith;
      tanf_value = omega (arith, reported_end s a.n m i A t);
      non_tanf_value = omega (arith, reported_end s a.n m i N t);
    }
