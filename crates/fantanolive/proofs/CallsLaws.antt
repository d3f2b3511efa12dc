-- From the outcome of a call to what its C function leaves. Assumes nothing.
use Prim.Native.Nat.{ℕ}
use mathlib.Core.Path.{◌≡◌, ap, ◌∙◌, sym}
use mathlib.Core.List.{List}
use Rattle.std.specs.Prelude.{Result}
use Rattle.answers.specs.declared.refusal.Refusal.{Refusal}
use Rattle.answers.specs.Answer.{Answer, returned}
use Rattle.answers.proofs.AnswerLaws.{returned_by}
use Rattle.layout.specs.Limits.{max_rows}
use Rattle.batch.specs.Apply.{applied_as, apply_outcome, IsOutcome}
use Rattle.lookup.specs.Find.{found_of, find_answer}
use Rattle.reconciliation.specs.Reconcile.{reconciled_as, reconcile_outcome}
use Rattle.batch.specs.declared.apply.Applied.{Applied}
use Rattle.fantanolive.specs.Calls.{apply_numbers, apply_left, find_left_by, find_left, reconcile_left}
use Rattle.batch.specs.Call.{Call}

-- by the case of the answer
pub apply_left_lem : (c : Call) (master verdicts rejects result : List ℕ) (answer told : Result Applied Refusal)
    → IsOutcome c (applied_as answer master verdicts rejects) → answer ≡ told
    → returned apply_numbers result (applied_as told master verdicts rejects) ≡ apply_left c result
unfolding apply_left
apply_left_lem c master verdicts rejects result answer told o e =
    returned_by (λ (a : Result Applied Refusal). applied_as a master verdicts rejects) apply_numbers result (apply_outcome c) answer told o.is e

pub find_left_lem : (master : List ℕ) (rows : ℕ) (key : List ℕ) (place : ℕ) (answer told : Result ℕ Refusal)
    → found_of answer ≡ find_answer max_rows master rows key → answer ≡ told
    → find_left_by (found_of told) place ≡ find_left master rows key place
unfolding find_left
find_left_lem master rows key place answer told o e =
    ap (λ (a : Result ℕ Refusal). find_left_by (found_of a) place) (sym e) ∙ ap (λ (a : Answer ℕ). find_left_by a place) o

pub reconcile_left_lem : (master : List ℕ) (rows : ℕ) (state date out left : List ℕ) (records : ℕ) (answer told : Result ℕ Refusal)
    → reconciled_as answer left ≡ reconcile_outcome max_rows master rows state date out → answer ≡ told
    → returned (λ n. n) records (reconciled_as told left) ≡ reconcile_left master rows state date out records
unfolding reconcile_left
reconcile_left_lem master rows state date out left records answer told o e =
    returned_by (λ (a : Result ℕ Refusal). reconciled_as a left) (λ n. n) records (reconcile_outcome max_rows master rows state date out) answer told o e
