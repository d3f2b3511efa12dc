-- `fantanolive_merge`: each answer of `merge` is written as the number and the count that its outcome stands for. Assumes nothing.
use Rattle.merging.specs.Merge.{merge_call}
use Rattle.fantanolive.proofs.MergingCallsLaws.{merge_left_lem}
use Rattle.fantanolive.proofs.merging_calls.fantanolive_merge.Goals as goal

pub returns-in-Ok : goal.returns-in-Ok
returns-in-Ok c =
    let a = c.args in
    merge_left_lem (merge_call a.first.now a.second.now a.out.now) _ _ _ _ c.merge.ensures c.in-Ok.is

pub returns-in-Err : goal.returns-in-Err
returns-in-Err c =
    let a = c.args in
    rw c.number.ensures (merge_left_lem (merge_call a.first.now a.second.now a.out.now) _ _ _ _ c.merge.ensures c.in-Err.is)
