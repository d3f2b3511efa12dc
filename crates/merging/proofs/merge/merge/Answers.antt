-- `merge::merge`: a refusal's number is answered with the output untouched, else the merged batch is written. Assumes nothing.
use Rattle.merging.specs.Merge.{merge_call}
use Rattle.std.proofs.lemmas.Result.{err_from_is_err_and}
use Rattle.layout.specs.Limits.{max_rows}
use mathlib.Core.Path.{sym}
use Rattle.merging.proofs.MergeLaws.{both_passed, merge_refused, merge_done}
use Rattle.merging.proofs.merge.merge.Goals as goal

pub returns-in_err-first_refusal : goal.returns-in_err-first_refusal
returns-in_err-first_refusal c =
    let a = c.args in
    let p = err_from_is_err_and c.from_residual.result c.from_residual.ensures.1 in
    rw (p.1, p.2) (merge_refused (merge_call a.first.now a.second.now a.out.now) _ c.in_err-first_refusal.ensures)

pub merged_count-requires : goal.merged_count-requires
merged_count-requires c =
    let a = c.args in
    both_passed max_rows a.first.now a.second.now a.out.now (sym c.in_ok-first_refusal.ensures)

pub returns : goal.returns
returns c =
    let a = c.args in
    merge_done (merge_call a.first.now a.second.now a.out.now) c.in_ok-first_refusal.ensures _ c.merged_count.ensures _ c.write_merged.ensures
