-- From the outcome of a conversion and of a posting to what its C function leaves, by the case of the answer. Assumes nothing.
use Prim.Native.Nat.{ℕ}
use mathlib.Core.Path.{◌≡◌}
use mathlib.Core.List.{List}
use Rattle.std.specs.Prelude.{Result}
use Rattle.answers.specs.declared.refusal.Refusal.{Refusal}
use Rattle.answers.specs.Answer.{returned}
use Rattle.answers.proofs.AnswerLaws.{returned_by}
use Rattle.addcents.specs.Convert.{ConvertCall, added_as, convert_outcome, AreCentsAdded}
use Rattle.posting.specs.Post.{PostCall, posted_as, post_outcome, IsPosting}
use Rattle.fantanolive.specs.AddCentsCalls.{convert_left}
use Rattle.fantanolive.specs.PostingCalls.{post_left}

pub convert_left_lem : (c : ConvertCall) (left : List ℕ) (answer told : Result Unit Refusal) → AreCentsAdded c (added_as answer left) → answer ≡ told
    → returned (λ u. u) tt (added_as told left) ≡ convert_left c
unfolding convert_left
convert_left_lem c left answer told o e =
    returned_by (λ (a : Result Unit Refusal). added_as a left) (λ u. u) tt (convert_outcome c) answer told o.is e

pub post_left_lem : (c : PostCall) (master lines : List ℕ) (listed : ℕ) (answer told : Result ℕ Refusal) → IsPosting c (posted_as answer master lines)
    → answer ≡ told → returned (λ n. n) listed (posted_as told master lines) ≡ post_left c listed
unfolding post_left
post_left_lem c master lines listed answer told o e =
    returned_by (λ (a : Result ℕ Refusal). posted_as a master lines) (λ n. n) listed (post_outcome c) answer told o.is e
