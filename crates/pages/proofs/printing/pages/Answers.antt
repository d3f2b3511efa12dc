-- `printing::pages`: each early answer is the first refusal that holds, and behind them the pages fill the front of the buffer.
-- Assumes nothing.
use mathlib.Core.Path.{sym}
use native.Mathlib.Omega.{arith}
use Rattle.std.proofs.lemmas.Result.{err_from_is_err_and}
use Rattle.layout.specs.Limits.{max_rows}
use Rattle.casemaster.proofs.RefusalsLaws.{master_rows}
use Rattle.pages.proofs.OutcomeLaws.{pages_master, room_is, pages_31, pages_done}
use Rattle.pages.proofs.printing.pages.Goals as goal

pub returns-in_err-master_refusal : goal.returns-in_err-master_refusal
returns-in_err-master_refusal c =
    let a = c.args in
    let p = err_from_is_err_and c.from_residual.result c.from_residual.ensures.1 in
    rw (p.1, p.2) (pages_master max_rows a.master.now a.rows a.out.now _ c.in_err-master_refusal.ensures)

pub count_live-live-requires : goal.count_live-live-requires
count_live-live-requires c =
    let a = c.args in
    omega (arith, master_rows max_rows a.master.now a.rows (sym c.in_ok-master_refusal.ensures))

pub overflow_add-count : goal.overflow_add-count
overflow_add-count c =
    let a = c.args in
    omega (arith, master_rows max_rows a.master.now a.rows (sym c.in_ok-master_refusal.ensures), c.count_live-live.ensures.1)

pub overflow_mul-count : goal.overflow_mul-count
overflow_mul-count c =
    let a = c.args in
    omega (arith, master_rows max_rows a.master.now a.rows (sym c.in_ok-master_refusal.ensures), c.count_live-live.ensures.1)

pub overflow_add-live : goal.overflow_add-live
overflow_add-live c =
    let a = c.args in
    omega (arith, master_rows max_rows a.master.now a.rows (sym c.in_ok-master_refusal.ensures), c.count_live-live.ensures.1)

pub returns-then-out-live : goal.returns-then-out-live
returns-then-out-live c =
    let a = c.args in
    pages_31 max_rows a.master.now a.rows a.out.now (sym c.in_ok-master_refusal.ensures) c.count_live-live.result c.count_live-live.ensures.0 c.if-out-live.true

pub print_rows-requires : goal.print_rows-requires
print_rows-requires c =
    let a = c.args in (
      omega (arith, master_rows max_rows a.master.now a.rows (sym c.in_ok-master_refusal.ensures)),
      omega (arith, room_is max_rows a.master.now a.rows a.out.now c.count_live-live.result c.count_live-live.ensures.0, c.if-out-live.false),
    )

pub returns : goal.returns
returns c =
    let a = c.args in
    pages_done max_rows a.master.now a.rows a.out.now (sym c.in_ok-master_refusal.ensures) c.count_live-live.result c.count_live-live.ensures.0 c.print_rows.new.out c.print_rows.result (omega arith) c.print_rows.auto.out c.print_rows.ensures
