-- Two batches into one: a file sent as two, since the merged batch has the details of both under the state of both. Assumes nothing.
use Prim.Native.Nat.{ℕ, ◌+◌, ◌≤◌}
use mathlib.Core.Path.{◌≡◌, sym, ap, ap₂, ◌∙◌}
use mathlib.Core.Logic.{◌⊎◌, inl, inr}
use mathlib.Core.List.{List, [], ◌∷◌, ◌++◌, append-nil}
use native.Mathlib.Omega.{arith}
use lib.ListN.{length}
use Rattle.layout.specs.Batch.{details_of, submitting_state}
use Rattle.onecase.specs.Verdict.{Judgement}
use Rattle.turns.specs.Under.{details_under, verdicts_under}
use Rattle.turns.proofs.AppendLaws.{verdicts_under-append}
use Rattle.turns.proofs.UnderLaws.{length_verdicts}
use Rattle.batch.specs.Call.{call_settings}
use Rattle.merging.specs.Theorem.{IsMergeOf, batch_written}
use Rattle.merging.proofs.TheoremProof.{every_merge}
use Rattle.effects.specs.Several.{Sent, IsApplied, WasCarriedOut, SameState, master_found, details_sent, joined_details, verdicts_sent, joined_verdicts, batches_with}
use Rattle.effects.specs.TwoIntoOne.{TwoIntoOne}
use Rattle.effects.proofs.OutcomeLaws.{verdicts_read}
use Rattle.effects.proofs.PartsLaws.{one_if_any}
use Rattle.effects.proofs.SeveralProof.{several}

-- records are in one at most
one_of_two : (xs ys : List (List ℕ)) → (xs ≡ []) ⊎ (ys ≡ []) → one_if_any xs + (one_if_any ys + 0) ≤ 1
one_of_two [] [] e = omega arith
one_of_two [] (y ∷ ys) e = omega arith
one_of_two (x ∷ xs) [] e = omega arith
one_of_two (x ∷ xs) (y ∷ ys) (inl e) = absurd (let z : ◌≡◌ {A = ℕ} 0 1 = cc in omega arith)
one_of_two (x ∷ xs) (y ∷ ys) (inr e) = absurd (let z : ◌≡◌ {A = ℕ} 0 1 = cc in omega arith)

-- as many verdicts as details
many_verdicts : (s : Sent) → IsApplied s → WasCarriedOut s → length (verdicts_sent s) ≡ length (details_sent s)
many_verdicts s i t =
    ap length (verdicts_read s.call s.outcome i t)
    ∙ length_verdicts (call_settings s.call) (master_found s).rows (details_sent s)

pub two_into_one : TwoIntoOne
unfolding joined_details joined_verdicts batches_with
two_into_one c m a b whole im ia ib iw tm ta tb tw ea eb ew fa fb ya yb la lb n =
    let w : IsMergeOf c.first c.second (batch_written m) = every_merge c m im tm in
    let parts : List Sent = a ∷ b ∷ [] in
    let state-a : SameState whole a = ap submitting_state ew ∙ w.first_state ∙ sym (ap submitting_state ea) in
    let state-b : SameState whole b = ap submitting_state ew ∙ w.second_state ∙ sym (ap submitting_state eb) in
    let both : joined_details parts ≡ details_sent a ++ details_sent b =
    ap (λ (z : List (List ℕ)). details_sent a ++ z) (append-nil (details_sent b)) in
    let details : details_sent a ++ details_sent b ≡ details_sent whole =
    ap₂ (λ (x y : List (List ℕ)). x ++ y) (ap details_of ea) (ap details_of eb) ∙ sym w.details ∙ sym (ap details_of ew) in
    let s =
    several whole parts iw (ia, (ib, tt)) tw (ta, (tb, tt)) (state-a, (state-b, tt)) (ya, (yb, tt)) (la, (lb, tt)) (fa, (fb, tt))
    (both ∙ details) (λ key k h. one_of_two (details_under key (details_sent a)) (details_under key (details_sent b)) (n key k (rw both at h))) in
    let verdicts : verdicts_sent a ++ verdicts_sent b ≡ verdicts_sent whole =
    ap (λ (z : List Judgement). verdicts_sent a ++ z) (sym (append-nil (verdicts_sent b))) ∙ s.verdicts in
    record {
      master = s.master;
      verdicts = verdicts;
      under = λ key k.
          sym (verdicts_under-append key (details_sent a) (details_sent b) (verdicts_sent a) (verdicts_sent b) (many_verdicts a ia ta))
          ∙ ap₂ (verdicts_under key) details verdicts;
    }
