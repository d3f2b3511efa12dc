-- From the outcome of the call to what its C function leaves, by the case of the answer. Assumes nothing.
use Prim.Native.Nat.{ℕ}
use mathlib.Core.Path.{◌≡◌}
use mathlib.Core.List.{List}
use Rattle.std.specs.Prelude.{Result}
use Rattle.answers.specs.declared.refusal.Refusal.{Refusal}
use Rattle.answers.specs.Answer.{returned}
use Rattle.answers.proofs.AnswerLaws.{returned_by}
use Rattle.caserecords.specs.RecordsTo.{records_as, records_outcome}
use Rattle.fantanolive.specs.RecordsCalls.{records_left}

pub records_left_lem : (row wanted list out left : List ℕ) (count : ℕ) (answer told : Result ℕ Refusal)
    → records_as answer left ≡ records_outcome row wanted list out → answer ≡ told
    → returned (λ n. n) count (records_as told left) ≡ records_left row wanted list out count
unfolding records_left
records_left_lem row wanted list out left count answer told o e =
    returned_by (λ (a : Result ℕ Refusal). records_as a left) (λ n. n) count (records_outcome row wanted list out) answer told o e
