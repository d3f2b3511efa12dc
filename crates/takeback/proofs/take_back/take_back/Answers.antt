-- `take_back::take_back`: a refusal leaves the master, and where there is none the journal has what restoring asks for. Assumes nothing.
use Rattle.takeback.proofs.TakeBackLaws.{few_rows, take_refused, no_refusal, rows_inside, counts_known, known, take_done}
use mathlib.Core.Path.{sym}
use Rattle.std.proofs.lemmas.Result.{err_from_is_err_and}
use Rattle.layout.specs.Limits.{max_rows}
use Rattle.takeback.proofs.take_back.take_back.Goals as goal

pub returns-in_err-take_back_refusal : goal.returns-in_err-take_back_refusal
returns-in_err-take_back_refusal c =
    let a = c.args in
    let p = err_from_is_err_and c.from_residual.result c.from_residual.ensures.1 in
    rw (p.1, p.2) (take_refused max_rows a.master.now a.rows a.journal.now _ c.in_err-take_back_refusal.ensures)

pub unwrap-c-requires : goal.unwrap-c-requires
unwrap-c-requires c =
    let a = c.args in
    let z = sym c.in_ok-take_back_refusal.ensures in
    counts_known max_rows few_rows a.master.now a.rows a.journal.now z c.counts_of.result c.counts_of.ensures

pub restore-requires : goal.restore-requires
restore-requires c =
    let a = c.args in
    let z = sym c.in_ok-take_back_refusal.ensures in
    let k = known max_rows few_rows a.master.now a.rows a.journal.now z c.unwrap-c.result (rw c.unwrap-c.ensures at c.counts_of.ensures) in
    record { n_in_bounds = (rows_inside max_rows a.master.now a.rows (no_refusal max_rows a.master.now a.rows a.journal.now z).0, k.inside); can_restore = k.can }

pub returns : goal.returns
returns c =
    let a = c.args in
    let z = sym c.in_ok-take_back_refusal.ensures in
    take_done max_rows few_rows a.master.now a.rows a.journal.now z c.unwrap-c.result (rw c.unwrap-c.ensures at c.counts_of.ensures) _ _ c.restore.ensures
