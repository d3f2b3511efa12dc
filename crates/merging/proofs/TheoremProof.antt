-- Every merge that is carried out writes a batch of both batches' details, and it passes the refusals of a batch. Assumes nothing.
use mathlib.Core.Path.{◌∙◌}
use Rattle.merging.specs.Theorem.{EveryMerge, MergePasses}
use Rattle.merging.proofs.MergeLaws.{Mergeable, merge_facts, merge_left_lem, merged_details, merged_state, merged_passes}

pub every_merge : EveryMerge
every_merge c o i t =
    let f : Mergeable c.limit c.first c.second = merge_facts c o i t in
    let state = merged_state c.limit c.first c.second f.first_known f.second_known in
    rw (merge_left_lem c o i t)
    (record {
      details = merged_details c.limit c.first c.second f.first_known f.second_known;
      first_state = state;
      second_state = state ∙ f.same_state_lem;
    })

pub merge_passes : MergePasses
merge_passes c o i t small =
    let f : Mergeable c.limit c.first c.second = merge_facts c o i t in
    rw (merge_left_lem c o i t)
    (merged_passes c.limit c.first c.second f.first_known f.second_known f.few small f.tanf_in f.non_tanf_in)
