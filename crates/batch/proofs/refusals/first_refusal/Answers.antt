-- `refusals::first_refusal`: a group that refuses nothing leaves the answer to the groups behind it, in the order of the paper. Assumes nothing.
use mathlib.Core.Path.{refl, sym}
use native.Mathlib.Omega.{arith}
use Rattle.std.proofs.lemmas.Result.{err_from_is_err_and}
use Rattle.answers.proofs.RefusalLaws.{number_above_zero}
use Rattle.batch.proofs.ApplyLaws.{first_opening, first_master, first_batch, first_space}
use Rattle.layout.specs.Limits.{max_rows}
use Rattle.batchfile.proofs.RefusalsLaws.{batch_known}
use Rattle.casemaster.proofs.RefusalsLaws.{master_rows, master_sound}
use Rattle.batch.specs.Call.{call_of}
use Rattle.batch.proofs.refusals.first_refusal.Goals as goal

pub returns-in_err-opening_refusal : goal.returns-in_err-opening_refusal
returns-in_err-opening_refusal c =
    let a = c.args in
    let g = call_of a.m.now a.n a.batch.now a.locals.now a.year a.verdicts.now a.rejects.now in
    let p = err_from_is_err_and c.from_residual.result c.from_residual.ensures.1 in
    rw (p.1, p.2) (first_opening g _ c.in_err-opening_refusal.ensures (number_above_zero _))

pub returns-in_err-master_refusal : goal.returns-in_err-master_refusal
returns-in_err-master_refusal c =
    let a = c.args in
    let g = call_of a.m.now a.n a.batch.now a.locals.now a.year a.verdicts.now a.rejects.now in
    let p = err_from_is_err_and c.from_residual-in_err-master_refusal.result c.from_residual-in_err-master_refusal.ensures.1 in
    rw (p.1, p.2) (first_master g 0 c.in_ok-opening_refusal.ensures refl _ c.in_err-master_refusal.ensures (number_above_zero _))

pub returns-in_err-batch_refusal : goal.returns-in_err-batch_refusal
returns-in_err-batch_refusal c =
    let a = c.args in
    let g = call_of a.m.now a.n a.batch.now a.locals.now a.year a.verdicts.now a.rejects.now in
    let p = err_from_is_err_and c.from_residual-in_err-batch_refusal.result c.from_residual-in_err-batch_refusal.ensures.1 in
    rw (p.1, p.2) (first_batch g 0 c.in_ok-opening_refusal.ensures refl 0 c.in_ok-master_refusal.ensures refl _ c.in_err-batch_refusal.ensures (number_above_zero _))

pub space_refusal-requires : goal.space_refusal-requires
space_refusal-requires c =
    let a = c.args in
    let z = sym c.in_ok-master_refusal.ensures in
    let w = (batch_known max_rows a.batch.now 0 (sym c.in_ok-batch_refusal.ensures)).0.whole in
    (omega (arith, master_rows max_rows a.m.now a.n z), master_sound max_rows a.m.now a.n z, omega (arith, w.one, w.whole))

pub returns : goal.returns
returns c =
    let a = c.args in
    let g = call_of a.m.now a.n a.batch.now a.locals.now a.year a.verdicts.now a.rejects.now in
    first_space g 0 c.in_ok-opening_refusal.ensures refl 0 c.in_ok-master_refusal.ensures refl 0 c.in_ok-batch_refusal.ensures refl _ c.space_refusal.ensures
