-- `merge::first_refusal`: a batch that passes leaves the answer to what stands behind it. Assumes nothing.
use Rattle.std.proofs.lemmas.Result.{err_from_is_err_and}
use Rattle.answers.proofs.RefusalLaws.{number_above_zero}
use Rattle.layout.specs.Limits.{max_rows}
use Rattle.merging.proofs.MergeLaws.{answer_first, answer_second, answer_32, answer_33, answer_0}
use mathlib.Core.Path.{refl, sym, ◌∙◌}
use Rattle.merging.proofs.merge.first_refusal.Goals as goal

pub returns-in_err-batch_refusal : goal.returns-in_err-batch_refusal
returns-in_err-batch_refusal c =
    let a = c.args in
    let p = err_from_is_err_and c.from_residual.result c.from_residual.ensures.1 in
    rw (p.1, p.2) (answer_first max_rows a.first.now a.second.now a.out.now _ c.in_err-batch_refusal.ensures (number_above_zero _))

pub returns-in_err-batch_refusal-2 : goal.returns-in_err-batch_refusal-2
returns-in_err-batch_refusal-2 c =
    let a = c.args in
    let p = err_from_is_err_and c.from_residual-in_err-batch_refusal-2.result c.from_residual-in_err-batch_refusal-2.ensures.1 in
    rw (p.1, p.2) (answer_second max_rows a.first.now a.second.now a.out.now 0 c.in_ok-batch_refusal.ensures refl _ c.in_err-batch_refusal-2.ensures (number_above_zero _))

pub returns-then-cannot_merge : goal.returns-then-cannot_merge
returns-then-cannot_merge c =
    let a = c.args in
    answer_32 max_rows a.first.now a.second.now a.out.now 0 c.in_ok-batch_refusal.ensures refl 0 c.in_ok-batch_refusal-2.ensures refl
    (sym c.cannot_merge.ensures ∙ c.if-cannot_merge.true)

pub returns-then-out-merged_count : goal.returns-then-out-merged_count
returns-then-out-merged_count c =
    let a = c.args in
    answer_33 max_rows a.first.now a.second.now a.out.now 0 c.in_ok-batch_refusal.ensures refl 0 c.in_ok-batch_refusal-2.ensures refl
    (sym c.cannot_merge.ensures ∙ c.if-cannot_merge.false) _ c.merged_count.ensures c.if-out-merged_count.true

pub returns : goal.returns
returns c =
    let a = c.args in
    answer_0 max_rows a.first.now a.second.now a.out.now 0 c.in_ok-batch_refusal.ensures refl 0 c.in_ok-batch_refusal-2.ensures refl
    (sym c.cannot_merge.ensures ∙ c.if-cannot_merge.false) _ c.merged_count.ensures c.if-out-merged_count.false
