-- `take_back::take_back_refusal`: 26 is looked at only where 3 and 4 do not hold, so the rows tested are sound and few. Assumes nothing.
use Rattle.takeback.proofs.TakeBackLaws.{refused_master, refusal_none, refusal_26, rows_inside, in_reach, few_rows}
use Rattle.casemaster.proofs.RefusalsLaws.{master_sound}
use mathlib.Core.Path.{sym}
use Rattle.std.proofs.lemmas.Result.{err_from_is_err_and}
use Rattle.layout.specs.Limits.{max_rows}
use Rattle.takeback.proofs.take_back.take_back_refusal.Goals as goal

pub returns-in_err-master_refusal : goal.returns-in_err-master_refusal
returns-in_err-master_refusal c =
    let a = c.args in
    let p = err_from_is_err_and c.from_residual.result c.from_residual.ensures.1 in
    rw (p.1, p.2) (refused_master max_rows a.master.now a.rows a.journal.now _ c.in_err-master_refusal.ensures)

pub can_take_back-requires : goal.can_take_back-requires
can_take_back-requires c =
    let a = c.args in
    let z = sym c.in_ok-master_refusal.ensures in
    (rows_inside max_rows a.master.now a.rows z, master_sound max_rows a.master.now a.rows z, in_reach max_rows a.master.now a.rows few_rows z)

pub returns-then-can_take_back : goal.returns-then-can_take_back
returns-then-can_take_back c =
    let a = c.args in
    let z = sym c.in_ok-master_refusal.ensures in
    refusal_none max_rows a.master.now a.rows a.journal.now z c.can_take_back.result c.can_take_back.ensures c.if-can_take_back.true

pub returns-else-can_take_back : goal.returns-else-can_take_back
returns-else-can_take_back c =
    let a = c.args in
    let z = sym c.in_ok-master_refusal.ensures in
    refusal_26 max_rows a.master.now a.rows a.journal.now z c.can_take_back.result c.can_take_back.ensures c.if-can_take_back.false
