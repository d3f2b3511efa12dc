-- From the outcome of a call with a journal and of taking back to what its C function leaves, by the case of the answer. Assumes nothing.
use Prim.Native.Nat.{ℕ}
use mathlib.Core.Path.{◌≡◌}
use mathlib.Core.List.{List}
use Rattle.std.specs.Prelude.{Result}
use Rattle.answers.specs.declared.refusal.Refusal.{Refusal}
use Rattle.answers.specs.Answer.{returned}
use Rattle.answers.proofs.AnswerLaws.{returned_by}
use Rattle.layout.specs.Limits.{max_rows}
use Rattle.takeback.specs.TakeBack.{taken_as, take_back_outcome}
use Rattle.journaledapply.specs.Journaled.{JournaledCall, journaled_as, journaled_outcome, IsJournaled}
use Rattle.batch.specs.declared.apply.RunResult.{RunResult}
use Rattle.fantanolive.specs.JournalCalls.{journaled_numbers, journaled_left, take_back_left}

pub journaled_left_lem : (j : JournaledCall) (master verdicts rejects journal result : List ℕ) (answer told : Result RunResult Refusal)
    → IsJournaled j (journaled_as answer master verdicts rejects journal) → answer ≡ told
    → returned journaled_numbers result (journaled_as told master verdicts rejects journal) ≡ journaled_left j result
unfolding journaled_left
journaled_left_lem j master verdicts rejects journal result answer told o e =
    returned_by (λ (a : Result RunResult Refusal). journaled_as a master verdicts rejects journal) journaled_numbers result (journaled_outcome j) answer told o.is e

pub take_back_left_lem : (master : List ℕ) (rows : ℕ) (journal left : List ℕ) (after : ℕ) (answer told : Result ℕ Refusal)
    → taken_as answer left ≡ take_back_outcome max_rows master rows journal → answer ≡ told
    → returned (λ n. n) after (taken_as told left) ≡ take_back_left master rows journal after
unfolding take_back_left
take_back_left_lem master rows journal left after answer told o e =
    returned_by (λ (a : Result ℕ Refusal). taken_as a left) (λ n. n) after (take_back_outcome max_rows master rows journal) answer told o e
