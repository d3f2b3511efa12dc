-- `apply::apply_journaled`: a refusal is answered with every buffer untouched, and where there is none `run` writes the journal. Assumes
-- nothing.
use mathlib.Core.Path.{sym}
use native.Mathlib.Omega.{arith}
use Rattle.std.proofs.lemmas.Result.{err_from_is_err_and}
use Rattle.layout.proofs.LimitsLaws.{few_details}
use Rattle.batch.proofs.KnownLaws.{known}
use Rattle.batch.proofs.PassedLaws.{passed}
use Rattle.batch.specs.Call.{call_of}
use Rattle.journaledapply.proofs.JournaledLaws.{journaled_refused, journaled_25, has_space, journaled_done}
use Rattle.journaledapply.proofs.apply.apply_journaled.Goals as goal

pub returns-in_err-first_refusal : goal.returns-in_err-first_refusal
returns-in_err-first_refusal c =
    let a = c.args in
    let p = err_from_is_err_and c.from_residual.result c.from_residual.ensures.1 in
    let g = call_of a.master.now a.rows a.batch.now a.locals.now a.year a.verdicts.now a.rejects.now in
    rw (p.1, p.2) (journaled_refused g a.journal.now _ c.in_err-first_refusal.ensures)

pub is_short-requires : goal.is_short-requires
is_short-requires c =
    let a = c.args in
    let g = call_of a.master.now a.rows a.batch.now a.locals.now a.year a.verdicts.now a.rejects.now in
    let k = known g (passed g (sym c.in_ok-first_refusal.ensures)) in
    (omega (arith, k.batch_in), omega (arith, k.batch_limit, few_details))

pub returns-then-is_short : goal.returns-then-is_short
returns-then-is_short c =
    let a = c.args in
    let g = call_of a.master.now a.rows a.batch.now a.locals.now a.year a.verdicts.now a.rejects.now in
    journaled_25 g a.journal.now (sym c.in_ok-first_refusal.ensures) c.is_short.result c.is_short.ensures c.if-is_short.true

pub run-r-requires : goal.run-r-requires
run-r-requires c =
    let a = c.args in
    let g = call_of a.master.now a.rows a.batch.now a.locals.now a.year a.verdicts.now a.rejects.now in
    let z = sym c.in_ok-first_refusal.ensures in
    record { rejects_value = z; batch_in_bounds = (λ _. has_space g a.journal.now z c.is_short.result c.is_short.ensures c.if-is_short.false) }

pub returns : goal.returns
returns c =
    let a = c.args in
    let g = call_of a.master.now a.rows a.batch.now a.locals.now a.year a.verdicts.now a.rejects.now in
    let z = sym c.in_ok-first_refusal.ensures in
    journaled_done g a.journal.now z c.is_short.result c.is_short.ensures c.if-is_short.false _ _ _ _ _ c.run-r.ensures
