-- `apply::apply`: a refusal's number is answered with every buffer untouched, and where there is none `run` carries the batch out. Assumes
-- nothing.
use mathlib.Core.Path.{refl, sym}
use mathlib.Core.Bool.{false≢true}
use Rattle.std.proofs.lemmas.Result.{err_from_is_err_and}
use Rattle.batch.proofs.ApplyLaws.{apply_err, apply_done}
use Rattle.batch.specs.Call.{call_of}
use Rattle.batch.proofs.apply.apply.Goals as goal

pub returns-in_err-first_refusal : goal.returns-in_err-first_refusal
returns-in_err-first_refusal c =
    let a = c.args in
    let p = err_from_is_err_and c.from_residual.result c.from_residual.ensures.1 in
    let g = call_of a.master.now a.rows a.batch.now a.locals.now a.year a.verdicts.now a.rejects.now in
    rw (p.1, p.2) (apply_err g _ c.in_err-first_refusal.ensures)

pub run-r-requires : goal.run-r-requires
run-r-requires c = record { rejects_value = sym c.in_ok-first_refusal.ensures; batch_in_bounds = λ w. absurd (false≢true w) }

pub returns : goal.returns
returns c =
    let a = c.args in
    let g = call_of a.master.now a.rows a.batch.now a.locals.now a.year a.verdicts.now a.rejects.now in
    apply_done g 0 c.in_ok-first_refusal.ensures refl _ c.run-r.ensures.is
