-- From the outcome of a merge to what its C function leaves. Assumes nothing.
use Prim.Native.Nat.{ℕ}
use mathlib.Core.Path.{◌≡◌}
use mathlib.Core.List.{List}
use Rattle.std.specs.Prelude.{Result}
use Rattle.answers.specs.declared.refusal.Refusal.{Refusal}
use Rattle.answers.specs.Answer.{returned}
use Rattle.answers.proofs.AnswerLaws.{returned_by}
use Rattle.merging.specs.Merge.{MergeCall, merged_as, merge_outcome, IsMerge}
use Rattle.fantanolive.specs.MergingCalls.{merge_left}

-- by the case of the answer
pub merge_left_lem : (c : MergeCall) (out : List ℕ) (records : ℕ) (answer told : Result ℕ Refusal) → IsMerge c (merged_as answer out) → answer ≡ told
    → returned (λ n. n) records (merged_as told out) ≡ merge_left c records
unfolding merge_left
merge_left_lem c out records answer told o e =
    returned_by (λ (a : Result ℕ Refusal). merged_as a out) (λ n. n) records (merge_outcome c) answer told o.is e
