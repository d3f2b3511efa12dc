-- `reconcile::reconcile`: each early answer is the first refusal that holds, and behind them the records and RCT fill the front of the
-- buffer. Assumes nothing.
use mathlib.Core.Bool.{true}
use mathlib.Core.List.{List, ◌++◌}
use mathlib.Core.Path.{◌≡◌, sym, ap, ◌∙◌}
use Prim.Native.Nat.{ℕ, ◌/◌, ◌<◌}
use native.Mathlib.Omega.{arith}
use lib.ListN.{length}
use borrow.Author.Rules.{rules}
use Rattle.std.proofs.lemmas.Result.{err_from_is_err_and}
use Rattle.layout.specs.Limits.{max_rows}
use Rattle.reconciliation.specs.Reconcile.{rec_records}
use Rattle.text.specs.Blocks.{joined, over}
use Rattle.dates.specs.Calendar.{is_date}
use Rattle.casemaster.specs.Master.{rows_of}
use Rattle.layout.specs.States.{is_state}
use Rattle.text.proofs.HoldsLaws.{holds_count, holds_last}
use Rattle.reconciliation.proofs.ReconcileLaws.{rct_counted}
use Rattle.reconciliation.proofs.ReconcileOutcomeLaws.{reconcile_master, reconcile_12, reconcile_13, reconcile_11, reconcile_done}
use Rattle.layout.proofs.StatesLaws.{state_wide}
use Rattle.dates.proofs.CalendarLaws.{date_wide}
use Rattle.casemaster.proofs.RefusalsLaws.{master_rows}
use Rattle.casemaster.specs.Refusals.{master_refusal}
use Rattle.reconciliation.proofs.reconcile.reconcile.Goals as goal

pub returns-in_err-master_refusal : goal.returns-in_err-master_refusal
returns-in_err-master_refusal c =
    let a = c.args in
    let p = err_from_is_err_and c.from_residual.result c.from_residual.ensures.1 in
    rw (p.1, p.2) (reconcile_master max_rows a.master.now a.rows a.state.now a.date.now a.out.now _ c.in_err-master_refusal.ensures)

pub returns-then-not-is_state : goal.returns-then-not-is_state
returns-then-not-is_state c =
    let a = c.args in
    let e : master_refusal max_rows a.master.now a.rows 0 ≡ 0 = sym c.in_ok-master_refusal.ensures in
    reconcile_12 max_rows a.master.now a.rows a.state.now a.date.now a.out.now e (sym c.if-not-is_state.ensures)

pub returns-then-not-right : goal.returns-then-not-right
returns-then-not-right c =
    let a = c.args in
    let e : master_refusal max_rows a.master.now a.rows 0 ≡ 0 = sym c.in_ok-master_refusal.ensures in
    let s : is_state a.state.now ≡ true = sym c.if-not-is_state.ensures in
    reconcile_13 max_rows a.master.now a.rows a.state.now a.date.now a.out.now e s (sym c.is_date-right.ensures ∙ c.if-not-right.true)

pub count_cases-cases-requires : goal.count_cases-cases-requires
count_cases-cases-requires c =
    let a = c.args in
    omega (arith, master_rows max_rows a.master.now a.rows (sym c.in_ok-master_refusal.ensures))

pub returns-then-out-cases : goal.returns-then-out-cases
returns-then-out-cases c =
    let a = c.args in
    let e : master_refusal max_rows a.master.now a.rows 0 ≡ 0 = sym c.in_ok-master_refusal.ensures in
    let s : is_state a.state.now ≡ true = sym c.if-not-is_state.ensures in
    let d : is_date a.date.now ≡ true = sym c.is_date-right.ensures ∙ c.if-not-right.false in
    reconcile_11 max_rows a.master.now a.rows a.state.now a.date.now a.out.now e s d (omega (arith, c.count_cases-cases.ensures.total_value, c.if-out-cases.true))

pub put_records-records-requires : goal.put_records-records-requires
put_records-records-requires c =
    let a = c.args in (
      omega (arith, master_rows max_rows a.master.now a.rows (sym c.in_ok-master_refusal.ensures)),
      omega (arith, c.count_cases-cases.ensures.total_value, c.if-out-cases.false),
    )

pub rct_record-control-requires : goal.rct_record-control-requires
rct_record-control-requires c =
    let a = c.args in (
      state_wide a.state.now (sym c.if-not-is_state.ensures),
      date_wide a.date.now (sym c.is_date-right.ensures ∙ c.if-not-right.false),
    )

pub overflow_mul-records : goal.overflow_mul-records
overflow_mul-records c = omega (arith, holds_count 245 c.put_records-records.ensures, c.count_cases-cases.ensures.total_value, c.if-out-cases.false)

pub copy_in-requires : goal.copy_in-requires
copy_in-requires c =
    let w : length c.rct_record-control.result ≡ 245 = search rules in
    omega (arith, holds_count 245 c.put_records-records.ensures, c.count_cases-cases.ensures.total_value, c.if-out-cases.false, c.put_records-records.auto.out)

pub returns : goal.returns
returns c =
    let a = c.args in
    let e : master_refusal max_rows a.master.now a.rows 0 ≡ 0 = sym c.in_ok-master_refusal.ensures in
    let s : is_state a.state.now ≡ true = sym c.if-not-is_state.ensures in
    let d : is_date a.date.now ≡ true = sym c.is_date-right.ensures ∙ c.if-not-right.false in
    let k = c.count_cases-cases.ensures in
    let p = c.put_records-records in
    let n = holds_count 245 p.ensures in
    let r = c.rct_record-control.result in
    let w : length r ≡ 245 = search rules in
    let rows : List (List ℕ) = rows_of a.rows a.master.now in
    let l : length (rec_records a.state.now rows) < length a.out.now / 245 = omega (arith, k.total_value, c.if-out-cases.false) in
    reconcile_done max_rows a.master.now a.rows a.state.now a.date.now a.out.now e s d p.result c.copy_in.new.dst l n
    (c.copy_in.ensures
    ∙ holds_last 245 r p.ensures w (omega (arith, p.auto.out))
    ∙ ap (λ (z : List ℕ). over (joined (rec_records a.state.now rows) ++ z) a.out.now)
    (rct_counted a.state.now a.date.now rows _ _ _ r k.tanf_value k.non_tanf_value k.total_value c.rct_record-control.ensures))
