-- The first refusal from its parts, and the outcome of a run from what the work left. Assumes nothing.
use Prim.Native.Nat.{ℕ, ◌+◌, ◌*◌, ◌/◌, ◌≤◌, ◌<◌}
use mathlib.Core.Path.{◌≡◌, refl, sym, ap, ◌∙◌}
use mathlib.Core.Bool.{Bool, true, false, not, cond, ◌&&◌, ◌||◌, and-false}
use mathlib.Core.List.{List, ◌++◌}
use native.Mathlib.Omega.{arith}
use lib.Dec.{eqb, leb, ltb}
use lib.ListN.{length, drop, take-append-drop}
use lib.Seq.{length-take-le}
use borrow.Author.Tests.{eq-eqb, ne_eqb, lt-ltb, le-ltb, le-leb, leb-true, leb-false}
use Rattle.answers.specs.Refusal.{refusal_number_of}
use Rattle.answers.specs.declared.refusal.Refusal.{Refusal}
use Rattle.answers.proofs.AnswerLaws.{outcome_refused, outcome_done}
use Rattle.answers.proofs.RefusalLaws.{number_above_zero}
use Rattle.std.specs.Prelude.{Err}
use Rattle.answers.specs.Answer.{refuse_if, refused, done, Run}
use Rattle.text.specs.Blocks.{joined, over, spliced}
use Rattle.casemaster.specs.Master.{rows_of}
use Rattle.text.proofs.BlocksLaws.{length-blocks, holds_over}
use Rattle.rejectfile.specs.Rejects.{numbers, reject_records}
use Rattle.rejectfile.specs.Counts.{Counts, counts_of, control_record}
use Rattle.rejectfile.specs.Tally.{counts_in}
use Rattle.batch.specs.Apply.{ApplyResult, ApplyBuffers, IsOutcome, result_in, applied_as, buffers_lent, call_rows, call_verdicts, apply_run, apply_outcome}
use Rattle.batch.specs.Journaling.{result_of, ran_as}
use Rattle.batch.specs.Progress.{Worked}
use Rattle.rejectfile.specs.declared.counts.Tally.{Tally}
use Rattle.batch.specs.declared.apply.RunResult.{RunResult}
use Rattle.batchfile.specs.Refusals.{batch_refusal}
use Rattle.batchfile.proofs.RefusalsLaws.{batch-behind}
use Rattle.casemaster.proofs.RefusalsLaws.{master_passed, master_refused}
use Rattle.rejectfile.proofs.CountsLaws.{length-control}
use Rattle.text.proofs.HoldsLaws.{holds_last}
use Rattle.batch.proofs.KnownLaws.{Known}
use Rattle.casemaster.specs.Refusals.{master_refusal}
use Rattle.turns.specs.Adds.{adds_without_row}
use Rattle.layout.specs.Batch.{detail_count, details_of, submitting_state}
use Rattle.batch.specs.Call.{Call}
use Rattle.batch.specs.Refusals.{refusal1, refusal2, refusal9, refusal10, refusal11, space_refusal, apply_refusal}

-- ---- the space

past : (a b : ℕ) → ltb b a ≡ not (leb a b)
past a b = go (leb a b) refl
  where
    go : (t : Bool) → leb a b ≡ t → ltb b a ≡ not t
    go true e = le-ltb b a (leb-true a b e)
    go false e = lt-ltb b a (leb-false a b e)

not_both : (a b : Bool) → not (a && b) ≡ (not a || not b)
not_both true b = refl
not_both false b = refl

-- the lesser of two numbers
pub least_left : (a b k : ℕ) → a < b → leb k a ≡ (leb k a && leb k b)
least_left a b k l = go (leb k a) refl
  where
    go : (t : Bool) → leb k a ≡ t → t ≡ (t && leb k b)
    go true e = sym (le-leb k b (omega (arith, leb-true k a e)))
    go false e = refl

pub least_right : (a b k : ℕ) → b ≤ a → leb k b ≡ (leb k a && leb k b)
least_right a b k l = go (leb k b) refl
  where
    go : (t : Bool) → leb k b ≡ t → t ≡ (leb k a && t)
    go true e = sym (rw (le-leb k a (omega (arith, leb-true k b e))))
    go false e = sym (and-false (leb k a))

module _ (limit : ℕ) (m : List ℕ) (n : ℕ) (batch : List ℕ) where
  abbrev rows : ℕ
  rows = n + adds_without_row (rows_of n m) (details_of batch)

  -- refusal 9 holds where they have no place
  pub room_told : not (leb rows (length m / 200) && leb rows limit) ≡ refusal9 limit m n batch
  unfolding refusal9
  room_told = not_both (leb rows (length m / 200)) (leb rows limit) ∙ sym (rw (past rows (length m / 200), past rows limit))

module _ (c : Call) where
  pub space_9 : refusal9 c.limit c.master c.rows c.batch ≡ true → 9 ≡ space_refusal c
  unfolding space_refusal
  space_9 e = sym (rw e)

  module _ (r : refusal9 c.limit c.master c.rows c.batch ≡ false) where
    pub space_10 : length c.verdicts < detail_count c.batch → 10 ≡ space_refusal c
    unfolding space_refusal refusal10
    space_10 l = sym (rw (r, lt-ltb _ _ l))

    module _ (v : detail_count c.batch ≤ length c.verdicts) where
      pub space_11 : length c.rejects < 245 * (detail_count c.batch + 1) → 11 ≡ space_refusal c
      unfolding space_refusal refusal10 refusal11
      space_11 l = sym (rw (r, le-ltb _ _ v, lt-ltb _ _ l))

      pub space_0 : 245 * (detail_count c.batch + 1) ≤ length c.rejects → 0 ≡ space_refusal c
      unfolding space_refusal refusal10 refusal11
      space_0 l = sym (rw (r, le-ltb _ _ v, le-ltb _ _ l))

-- ---- in order

opening : (a b : Bool) (behind : ℕ) → refuse_if a 1 (refuse_if b 2 behind) ≡ cond (eqb (refuse_if a 1 (refuse_if b 2 0)) 0) behind (refuse_if a 1 (refuse_if b 2 0))
opening true b behind = refl
opening false true behind = refl
opening false false behind = refl

module _ (c : Call) (o : ℕ) (eo : o ≡ refuse_if (refusal1 c.year) 1 (refuse_if (refusal2 c.locals) 2 0)) where
  behind_opening : apply_refusal c ≡ cond (eqb o 0) (master_refusal c.limit c.master c.rows (batch_refusal c.limit c.batch (space_refusal c))) o
  unfolding apply_refusal
  behind_opening = opening (refusal1 c.year) (refusal2 c.locals) _ ∙ rw (← eo)

  pub first_opening : (o ≡ 0 → ⊥) → o ≡ apply_refusal c
  first_opening n = sym (behind_opening ∙ rw (ne_eqb o 0 n))

  module _ (zo : o ≡ 0) (m : ℕ) (em : m ≡ master_refusal c.limit c.master c.rows 0) where
    past_opening : apply_refusal c ≡ master_refusal c.limit c.master c.rows (batch_refusal c.limit c.batch (space_refusal c))
    past_opening = behind_opening ∙ rw (eq-eqb o 0 zo)

    pub first_master : (m ≡ 0 → ⊥) → m ≡ apply_refusal c
    first_master n = sym (past_opening ∙ master_refused c.limit c.master c.rows (λ z. n (em ∙ z)) (batch_refusal c.limit c.batch (space_refusal c)) ∙ sym em)

    module _ (zm : m ≡ 0) (b : ℕ) (eb : b ≡ batch_refusal c.limit c.batch 0) where
      past_master : apply_refusal c ≡ cond (eqb b 0) (space_refusal c) b
      past_master = past_opening ∙ master_passed c.limit c.master c.rows (sym em ∙ zm) (batch_refusal c.limit c.batch (space_refusal c)) ∙ batch-behind c.limit c.batch (space_refusal c) ∙ rw (← eb)

      pub first_batch : (b ≡ 0 → ⊥) → b ≡ apply_refusal c
      first_batch n = sym (past_master ∙ rw (ne_eqb b 0 n))

      pub first_space : b ≡ 0 → (s : ℕ) → s ≡ space_refusal c → s ≡ apply_refusal c
      first_space zb s es = sym (past_master ∙ rw (eq-eqb b 0 zb) (sym es))

-- ---- the outcome

pub ran : (c : Call) → Known c → (m : List ℕ) (n : ℕ) (v rj : List ℕ) (k : ℕ) (t : Tally) (rj' : List ℕ) (r : RunResult)
    → Worked c m n v rj k t
    → length v ≡ length c.verdicts
    → length rj ≡ length c.rejects
    → length (submitting_state c.batch) ≡ 2
    → rj' ≡ spliced rj (k * 245) (control_record (submitting_state c.batch) (counts_in t))
    → result_of r ≡ result_in (counts_in t) n
    → ran_as r m v rj' ≡ apply_run c
unfolding apply_run over
ran c q m n v rj k t rj' r w lv lr ls er ea =
    let d = detail_count c.batch in
    let e1 : result_of r ≡ result_in (counts_of (details_of c.batch) (call_verdicts c)) (length (call_rows c)) =
    ea ∙ ap (λ (z : Counts). result_in z n) w.counts_are ∙ ap (result_in (counts_of (details_of c.batch) (call_verdicts c))) (sym (length-blocks 200 n m) ∙ ap length w.rows_are) in
    let e2 : m ≡ over (joined (call_rows c)) c.master =
    holds_over 200 c.master m n (call_rows c) (record { blocks_are = w.rows_are; rest_kept = w.rows_kept }) w.rows_in in
    let ln : length (numbers (call_verdicts c)) ≡ d = ap length (sym w.numbers_are) ∙ length-take-le d v (omega (arith, q.slots)) in
    let e3 : v ≡ over (numbers (call_verdicts c)) c.verdicts =
    sym (take-append-drop d v) ∙ ap (λ (z : List ℕ). z ++ drop d v) w.numbers_are ∙ ap (λ (z : List ℕ). numbers (call_verdicts c) ++ z) (w.numbers_kept ∙ ap (λ (z : ℕ). drop z c.verdicts) (sym ln)) in
    let e4 : rj' ≡ over (joined (reject_records (details_of c.batch) (call_verdicts c)) ++ control_record (submitting_state c.batch) (counts_of (details_of c.batch) (call_verdicts c))) c.rejects =
    er ∙ holds_last 245 (control_record (submitting_state c.batch) (counts_in t)) (record { blocks_are = w.rejects_are; rest_kept = w.rejects_kept }) (length-control (submitting_state c.batch) (counts_in t) ls) (omega (arith, q.space, w.rejects_few))
    ∙ ap (λ (z : Counts). over (joined (reject_records (details_of c.batch) (call_verdicts c)) ++ control_record (submitting_state c.batch) z) c.rejects) w.counts_are in
    λ j. record { result = e1 j; buffers = record { master = e2 j; verdicts = e3 j; rejects = e4 j } }

module _ (c : Call) (n : ℕ) (e : n ≡ apply_refusal c) where
  pub apply_refused : (n ≡ 0 → ⊥) → IsOutcome c (record { answer = refused n; buffers = buffers_lent c })
  unfolding apply_outcome
  apply_refused h = record { is = outcome_refused _ (buffers_lent c) (apply_run c) n e h }

  pub apply_done : n ≡ 0 → (run : Run ApplyResult ApplyBuffers) → run ≡ apply_run c
      → IsOutcome c (record { answer = done run.result; buffers = run.buffers })
  unfolding apply_outcome
  apply_done z run h = record { is = rw h (outcome_done _ (buffers_lent c) (apply_run c) (sym e ∙ z)) }

pub apply_err : (c : Call) (r : Refusal) → refusal_number_of r ≡ apply_refusal c → IsOutcome c (applied_as (Err r) c.master c.verdicts c.rejects)
apply_err c r e = apply_refused c (refusal_number_of r) e (number_above_zero r)
