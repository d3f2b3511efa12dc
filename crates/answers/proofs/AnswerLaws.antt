-- Laws of an outcome by its first refusal: each way out of a call, what follows where none holds, and that a refusal leaves everything.
-- Assumes nothing.
use Prim.Native.Nat.{ℕ, suc}
use mathlib.Core.Path.{◌≡◌, refl, sym, ap, ◌∙◌}
use mathlib.Core.Bool.{Bool, true, false, cond, false≢true}
use native.Mathlib.Omega.{arith}
use lib.Dec.{eqb}
use borrow.Author.Tests.{eqb-true, ne_eqb}
use Rattle.answers.specs.Answer.{refuse_if, refused, done, Outcome, Run, outcome_by, answer_by, is_carried_out, refusal_number, numbers_of, returned}

-- ---- the first refusal that holds

-- where none holds, neither this one nor one behind it does
pub refuse_none : (b : Bool) (n behind : ℕ) → refuse_if b (suc n) behind ≡ 0 → (b ≡ false) × (behind ≡ 0)
refuse_none true n behind e = absurd (omega arith)
refuse_none false n behind e = (refl, e)

module _ {R B : Type 0} (refusal : ℕ) (entry : B) (run : Run R B) where
  -- ---- each way out

  pub outcome_refused : (n : ℕ) → n ≡ refusal → (n ≡ 0 → ⊥) → record { answer = refused n; buffers = entry } ≡ outcome_by refusal entry run
  unfolding outcome_by
  outcome_refused n e h = rw (← e, ne_eqb n 0 h)

  pub outcome_done : refusal ≡ 0 → record { answer = done run.result; buffers = run.buffers } ≡ outcome_by refusal entry run
  unfolding outcome_by
  outcome_done e = rw e

  -- ---- what follows of a call's outcome

  abbrev outcome_at : Bool → Outcome R B
  outcome_at none = cond none (record { answer = done run.result; buffers = run.buffers }) (record { answer = refused refusal; buffers = entry })

  -- a call that is carried out has no refusal, and gives and leaves what the run does
  pub none_holds : is_carried_out (outcome_by refusal entry run).answer ≡ true → refusal ≡ 0
  unfolding outcome_by
  none_holds h = go (eqb refusal 0) refl h
    where
      go : (b : Bool) → eqb refusal 0 ≡ b → is_carried_out (outcome_at b).answer ≡ true → refusal ≡ 0
      go true e k = eqb-true refusal 0 e
      go false e k = absurd (false≢true k)

  -- so where its result is known
  pub done_is : (r : R) → (outcome_by refusal entry run).answer ≡ done r
      → (refusal ≡ 0) × (run.result ≡ r) × ((outcome_by refusal entry run).buffers ≡ run.buffers)
  unfolding outcome_by
  done_is r h = go (eqb refusal 0) refl h
    where
      go : (b : Bool) → eqb refusal 0 ≡ b → (outcome_at b).answer ≡ done r → (refusal ≡ 0) × (run.result ≡ r) × ((outcome_at b).buffers ≡ run.buffers)
      go true e k = (eqb-true refusal 0 e, ap (numbers_of (λ x. x) run.result) k, refl)
      go false e k = absurd (false≢true (ap is_carried_out k))

  -- a refusal leaves everything, and its number is the first's that holds
  pub refusal_leaves : (n : ℕ) → (outcome_by refusal entry run).answer ≡ refused n → ((outcome_by refusal entry run).buffers ≡ entry) × (refusal ≡ n)
  unfolding outcome_by
  refusal_leaves n h = go (eqb refusal 0) h
    where
      go : (b : Bool) → (outcome_at b).answer ≡ refused n → ((outcome_at b).buffers ≡ entry) × (refusal ≡ n)
      go true k = absurd (false≢true (sym (ap is_carried_out k)))
      go false k = (refl, ap refusal_number k)

-- ---- a call without buffers

module _ {R : Type 0} (refusal : ℕ) (result : R) where
  pub answer_refused : (n : ℕ) → n ≡ refusal → (n ≡ 0 → ⊥) → refused n ≡ answer_by refusal result
  unfolding answer_by
  answer_refused n e h = rw (← e, ne_eqb n 0 h)

  pub answer_done : refusal ≡ 0 → done result ≡ answer_by refusal result
  unfolding answer_by
  answer_done e = rw e

  pub answer_none : is_carried_out (answer_by refusal result) ≡ true → refusal ≡ 0
  unfolding answer_by
  answer_none h = go (eqb refusal 0) refl h
    where
      go : (b : Bool) → eqb refusal 0 ≡ b → is_carried_out (cond b (done result) (refused refusal)) ≡ true → refusal ≡ 0
      go true e k = eqb-true refusal 0 e
      go false e k = absurd (false≢true k)

-- ---- what a C function returns, by the case of the answer
pub returned_by : {E R N B : Type 0} (outcome : E → Outcome R B) (f : R → N) (kept : N) (o : Outcome R B) (answer told : E)
    → outcome answer ≡ o → answer ≡ told → returned f kept (outcome told) ≡ returned f kept o
returned_by outcome f kept o answer told e t = ap (λ a. returned f kept (outcome a)) (sym t) ∙ ap (λ p. returned f kept p) e
