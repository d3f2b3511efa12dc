-- `many::find_many`: each early answer is the first refusal that holds, and behind them the walk's answers fill the front of the list.
-- Assumes nothing.
use mathlib.Core.Path.{sym}
use native.Mathlib.Omega.{arith}
use Rattle.std.proofs.lemmas.Result.{err_from_is_err_and}
use Rattle.layout.specs.Limits.{max_rows}
use Rattle.casemaster.proofs.RefusalsLaws.{master_rows}
use Rattle.lookup.proofs.LimitLaws.{few_places, rows_few}
use Rattle.lookup.proofs.ManyLaws.{many_master, many_27, many_28, many_done}
use Rattle.lookup.proofs.many.find_many.Goals as goal

pub returns-in_err-master_refusal : goal.returns-in_err-master_refusal
returns-in_err-master_refusal c =
    let a = c.args in
    let p = err_from_is_err_and c.from_residual.result c.from_residual.ensures.1 in
    rw (p.1, p.2) (many_master max_rows a.master.now a.rows a.keys.now a.places.now _ c.in_err-master_refusal.ensures)

pub returns-then-not-are_keys : goal.returns-then-not-are_keys
returns-then-not-are_keys c =
    let a = c.args in
    many_27 max_rows a.master.now a.rows a.keys.now a.places.now c.in_ok-master_refusal.ensures c.if-not-are_keys.ensures

pub returns-then-places-k : goal.returns-then-places-k
returns-then-places-k c =
    let a = c.args in
    many_28 max_rows a.master.now a.rows a.keys.now a.places.now c.in_ok-master_refusal.ensures c.if-not-are_keys.ensures c.if-places-k.true

pub walk-comparisons-requires : goal.walk-comparisons-requires
walk-comparisons-requires c =
    let a = c.args in
    let z = sym c.in_ok-master_refusal.ensures in
    (omega (arith, master_rows max_rows a.master.now a.rows z), rows_few max_rows few_places a.master.now a.rows z, omega arith, omega arith)

pub returns : goal.returns
returns c =
    let a = c.args in
    many_done max_rows a.master.now a.rows a.keys.now a.places.now c.in_ok-master_refusal.ensures c.if-not-are_keys.ensures _ _ (omega arith) c.walk-comparisons.ensures
