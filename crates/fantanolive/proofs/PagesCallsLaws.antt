-- From the outcome of printing to what its C function leaves, by the case of the answer. Assumes nothing.
use Prim.Native.Nat.{ℕ}
use mathlib.Core.Path.{◌≡◌}
use mathlib.Core.List.{List}
use Rattle.std.specs.Prelude.{Result}
use Rattle.answers.specs.declared.refusal.Refusal.{Refusal}
use Rattle.answers.specs.Answer.{returned}
use Rattle.answers.proofs.AnswerLaws.{returned_by}
use Rattle.layout.specs.Limits.{max_rows}
use Rattle.pages.specs.Pages.{pages_as, pages_outcome}
use Rattle.fantanolive.specs.PagesCalls.{pages_left}

pub pages_left_lem : (master : List ℕ) (rows : ℕ) (out left : List ℕ) (pages : ℕ) (answer told : Result ℕ Refusal)
    → pages_as answer left ≡ pages_outcome max_rows master rows out → answer ≡ told
    → returned (λ n. n) pages (pages_as told left) ≡ pages_left master rows out pages
unfolding pages_left
pages_left_lem master rows out left pages answer told o e =
    returned_by (λ (a : Result ℕ Refusal). pages_as a left) (λ n. n) pages (pages_outcome max_rows master rows out) answer told o e
