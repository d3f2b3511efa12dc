-- From the outcome of many look-ups to what their C function leaves, by the case of the answer. Assumes nothing.
use Prim.Native.Nat.{ℕ}
use mathlib.Core.Path.{◌≡◌}
use mathlib.Core.List.{List}
use Rattle.std.specs.Prelude.{Result}
use Rattle.answers.specs.declared.refusal.Refusal.{Refusal}
use Rattle.answers.specs.Answer.{returned}
use Rattle.answers.proofs.AnswerLaws.{returned_by}
use Rattle.layout.specs.Limits.{max_rows}
use Rattle.lookup.specs.Many.{many_as, many_outcome}
use Rattle.fantanolive.specs.LookupCalls.{many_left}

pub many_left_lem : (master : List ℕ) (rows : ℕ) (keys places left : List ℕ) (comparisons : ℕ) (answer told : Result ℕ Refusal)
    → many_as answer left ≡ many_outcome max_rows master rows keys places → answer ≡ told
    → returned (λ n. n) comparisons (many_as told left) ≡ many_left master rows keys places comparisons
unfolding many_left
many_left_lem master rows keys places left comparisons answer told o e =
    returned_by (λ (a : Result ℕ Refusal). many_as a left) (λ n. n) comparisons (many_outcome max_rows master rows keys places) answer told o e
