-- From the totals of a batch's details to what the C function leaves. Assumes nothing.
use mathlib.Core.Path.{◌≡◌, ap, ◌∙◌, sym}
use mathlib.Core.List.{List}
use Prim.Native.Nat.{ℕ}
use Rattle.std.specs.Prelude.{Result}
use Rattle.answers.specs.declared.refusal.Refusal.{Refusal}
use Rattle.answers.specs.Answer.{Answer}
use Rattle.layout.specs.Limits.{max_rows}
use Rattle.batchfile.specs.Stated.{Stated}
use Rattle.totalling.specs.DetailTotals.{totalled_as, totals_answer}
use Rattle.batchfile.specs.declared.totals.Totals.{Totals}
use Rattle.fantanolive.specs.TotallingCalls.{totals_left_by, totals_left}

-- by the case of the answer
pub totals_left_lem : (batch kept : List ℕ) (answer told : Result Totals Refusal) → totalled_as answer ≡ totals_answer max_rows batch → answer ≡ told
    → totals_left_by (totalled_as told) kept ≡ totals_left batch kept
unfolding totals_left
totals_left_lem batch kept answer told o e =
    ap (λ (a : Result Totals Refusal). totals_left_by (totalled_as a) kept) (sym e) ∙ ap (λ (r : Answer Stated). totals_left_by r kept) o
