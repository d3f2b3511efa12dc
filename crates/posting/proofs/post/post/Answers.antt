-- `post::post` meets its contract: the refusals in order, then the work. Assumes nothing.
use mathlib.Core.Path.{sym, ◌∙◌}
use native.Mathlib.Omega.{arith}
use lib.ListN.{length}
use Rattle.std.proofs.lemmas.Result.{err_from_is_err_and}
use Rattle.layout.specs.Limits.{max_rows}
use Rattle.collectionfile.specs.File.{file_refusal}
use Rattle.posting.specs.Post.{post_call}
use Rattle.posting.proofs.PostLaws.{rows_inside, rows_fit, post_refused, post_done}
use Rattle.casemaster.proofs.RefusalsLaws.{master_passed, master_err}
use Rattle.collectionfile.proofs.FileLaws.{file_whole, file_room}
use Rattle.posting.proofs.post.post.Goals as goal

pub returns-in_err-master_refusal : goal.returns-in_err-master_refusal
returns-in_err-master_refusal c =
    let a = c.args in
    let p = err_from_is_err_and c.from_residual.result c.from_residual.ensures.1 in
    rw (p.1, p.2)
    (post_refused (post_call a.master.now a.rows a.file.now a.lines.now) _
    (master_err max_rows a.master.now a.rows _ c.in_err-master_refusal.ensures (file_refusal max_rows a.file.now (length a.lines.now))))

pub returns-in_err-file_refusal : goal.returns-in_err-file_refusal
returns-in_err-file_refusal c =
    let a = c.args in
    let z = sym c.in_ok-master_refusal.ensures in
    let p = err_from_is_err_and c.from_residual-in_err-file_refusal.result c.from_residual-in_err-file_refusal.ensures.1 in
    rw (p.1, p.2)
    (post_refused (post_call a.master.now a.rows a.file.now a.lines.now) _
    (c.in_err-file_refusal.ensures ∙ sym (master_passed max_rows a.master.now a.rows z (file_refusal max_rows a.file.now (length a.lines.now)))))

pub overflow_sub-count : goal.overflow_sub-count
overflow_sub-count c =
    let a = c.args in
    let z = sym c.in_ok-master_refusal.ensures in
    let y = sym c.in_ok-file_refusal.ensures in
    let w = file_whole max_rows a.file.now (length a.lines.now) y in
    omega (arith, w.0)

pub work-k-requires : goal.work-k-requires
work-k-requires c =
    let a = c.args in
    let z = sym c.in_ok-master_refusal.ensures in
    let y = sym c.in_ok-file_refusal.ensures in
    let w = file_whole max_rows a.file.now (length a.lines.now) y in (
      rows_inside max_rows a.master.now a.rows z,
      (rows_fit max_rows a.master.now a.rows z).sound,
      omega arith,
      omega (arith, w.0, w.1),
      file_room max_rows a.file.now (length a.lines.now) y,
    )

pub returns : goal.returns
returns c =
    let a = c.args in
    let z = sym c.in_ok-master_refusal.ensures in
    let y = sym c.in_ok-file_refusal.ensures in
    let w = file_whole max_rows a.file.now (length a.lines.now) y in
    post_done (post_call a.master.now a.rows a.file.now a.lines.now) _ _ _
    (master_passed max_rows a.master.now a.rows z (file_refusal max_rows a.file.now (length a.lines.now)) ∙ y)
    (rows_inside max_rows a.master.now a.rows z) (file_room max_rows a.file.now (length a.lines.now) y) c.work-k.ensures
