-- The journal that a call wrote is the journal of the call, so it takes the batch back; it has at most one entry for each detail, so it has
-- room; and what it leaves beside the journal is what `apply` leaves. Assumes nothing.
use Prim.Native.Nat.{ℕ, zero, suc, ◌+◌, ◌*◌, ◌^◌, ◌≤◌, ◌<◌}
use mathlib.Core.Path.{◌≡◌, refl, sym, ap, subst, ◌∙◌}
use mathlib.Core.Bool.{Bool, true, false, cond}
use mathlib.Core.List.{List}
use native.Mathlib.Nat.{mul-le-mul_left}
use native.Mathlib.Omega.{arith}
use lib.Dec.{eqb}
use lib.ListN.{length, take, drop}
use lib.Seq.{take_at, drop_at}
use borrow.Author.Tests.{eqb-true, ne_eqb, ltb-false}
use Rattle.answers.specs.Answer.{refuse_if, done, is_carried_out}
use Rattle.answers.proofs.AnswerLaws.{refuse_none, outcome_refused, outcome_done, none_holds}
use Rattle.text.specs.Blocks.{over}
use Rattle.layout.specs.Batch.{detail_count}
use Rattle.layout.proofs.LimitsLaws.{few_groups}
use Rattle.journal.specs.Journal.{journal_of, journal_bytes}
use Rattle.journal.specs.Space.{journal_space}
use Rattle.journal.proofs.LengthLaws.{journal-length}
use Rattle.batch.specs.Refusals.{apply_refusal}
use Rattle.batch.specs.Apply.{IsOutcome, call_rows, apply_run}
use Rattle.batch.proofs.ApplyLaws.{apply_done, apply_refused}
use Rattle.batch.proofs.CarriedLaws.{start_fit, rows_read}
use Rattle.journaledapply.specs.Journaled.{JournaledCall, refusal25, journaled_refusal, call_journal, JournaledOutcome, journaled_lent, journaled_run, journaled_outcome, length_written, beside_journal}
use Rattle.takingback.specs.TakenBack.{rows_at_entry, taken_back, journal_left}
use Rattle.takingback.specs.JournaledBatch.{journal_written, IsDone, EveryJournaledBatch, EveryBuffer, JournalLength, EnoughRoom, SameAsPlain, DoneAsPlain}
use Rattle.takingback.proofs.LeftLaws.{length_over, before_limit, after_limit, entries_few}
use Rattle.takingback.proofs.TakenBackProof.{every-batch}

take-over : (new old : List ℕ) → take (length new) (over new old) ≡ new
unfolding over
take-over new old = take_at new (drop (length new) old) (length new) refl

drop-over : (new old : List ℕ) → drop (length new) (over new old) ≡ drop (length new) old
unfolding over
drop-over new old = drop_at new (drop (length new) old) (length new) refl

module _ (j : JournaledCall) (o : JournaledOutcome) (d : IsDone j o) where
  passes : journaled_refusal j ≡ 0
  unfolding journaled_outcome
  passes =
      none_holds _ (journaled_lent j) (journaled_run j) (ap (λ (p : JournaledOutcome). is_carried_out p.answer) (sym d.is.is) ∙ d.done)

  outcome_is : o ≡ record { answer = done (journaled_run j).result; buffers = (journaled_run j).buffers }
  unfolding journaled_outcome
  outcome_is = d.is.is ∙ sym (outcome_done _ (journaled_lent j) (journaled_run j) passes)

  apply_passes : apply_refusal j.call ≡ 0
  unfolding journaled_refusal
  apply_passes = go (eqb (apply_refusal j.call) 0) refl passes
    where
      go : (b : Bool) → eqb (apply_refusal j.call) 0 ≡ b
          → cond b (refuse_if (refusal25 j.call.batch j.journal) 25 0) (apply_refusal j.call) ≡ 0 → apply_refusal j.call ≡ 0
      go true e h = eqb-true (apply_refusal j.call) 0 e
      go false e h = h

  not_25 : refusal25 j.call.batch j.journal ≡ false
  unfolding journaled_refusal
  not_25 = (refuse_none (refusal25 j.call.batch j.journal) 24 0 (sym (rw apply_passes) ∙ passes)).0

  pub is_outcome : IsOutcome j.call (beside_journal o)
  is_outcome =
      subst (λ (q : JournaledOutcome). IsOutcome j.call (beside_journal q)) (sym outcome_is)
      (apply_done j.call 0 (sym apply_passes) refl (apply_run j.call) refl)

  pub beside_done : is_carried_out (beside_journal o).answer ≡ true
  beside_done = ap (λ (q : JournaledOutcome). is_carried_out (beside_journal q).answer) outcome_is

  written : journal_written o ≡ call_journal j.call
  written = ap journal_written outcome_is ∙ take-over (call_journal j.call) j.journal

  left : call_journal j.call ≡ journal_left j.call (beside_journal o)
  unfolding call_journal
  left = ap (λ (rows : List (List ℕ)). journal_bytes (journal_of (rows_at_entry j.call) rows)) (sym (rows_read j.call (beside_journal o) is_outcome beside_done))

  bound : (k : ℕ) → j.call.limit < 128 ^ suc k
      → length (call_journal j.call) ≤ suc k + suc k + (suc k + 201) * detail_count j.call.batch
  unfolding call_journal
  bound k l =
      let c = j.call in
      let p = beside_journal o in
      let i = is_outcome in
      let t = beside_done in
      let a = journal-length k (rows_at_entry c) (call_rows c) (start_fit c p i t).wide (omega (arith, before_limit c p i t))
      (omega (arith, after_limit c p i t)) in
      let b = mul-le-mul_left (suc k + 201) (entries_few c p i t) in
      omega (arith, a, b)

-- the two calls
pub every_journaled_batch : EveryJournaledBatch
every_journaled_batch j o d master h =
    ap (taken_back j.call (beside_journal o) master) (written j o d ∙ left j o d)
    ∙ every-batch j.call (beside_journal o) (is_outcome j o d) (beside_done j o d) master h

pub every_buffer : EveryBuffer
every_buffer j o d room =
    record {
      same_length = ap (λ (q : JournaledOutcome). length q.buffers.journal) (outcome_is j o d) ∙ length_over (call_journal j.call) j.journal room;
      is = written j o d;
      kept = ap (λ (q : JournaledOutcome). drop (length_written q.answer) q.buffers.journal) (outcome_is j o d) ∙ drop-over (call_journal j.call) j.journal
          ∙ sym (ap (λ (q : JournaledOutcome). drop (length_written q.answer) j.journal) (outcome_is j o d));
    }

pub journal_bound : JournalLength
journal_bound j o d k l = bound j o d k l

pub enough_room : EnoughRoom
unfolding refusal25
enough_room j o d l =
    let r = ltb-false (length j.journal) (journal_space (detail_count j.call.batch)) (not_25 j o d) in
    omega (arith, r, bound j o d 3 (omega (arith, l, few_groups)))

-- what is left beside the journal keeps the promise of `apply`
plain : (j : JournaledCall) → refusal25 j.call.batch j.journal ≡ false → IsOutcome j.call (beside_journal (journaled_outcome j))
unfolding journaled_outcome journaled_refusal
plain j n = go (apply_refusal j.call) refl
  where
    go : (r : ℕ) → apply_refusal j.call ≡ r → IsOutcome j.call (beside_journal (journaled_outcome j))
    go zero e =
        subst (λ (q : JournaledOutcome). IsOutcome j.call (beside_journal q)) (outcome_done _ (journaled_lent j) (journaled_run j) (rw (e, n) refl))
        (apply_done j.call 0 (sym e) refl (apply_run j.call) refl)
    go (suc m) e =
        let h : suc m ≡ 0 → ⊥ = λ z. absurd (omega arith) in
        let f : eqb (suc m) 0 ≡ false = ne_eqb (suc m) 0 h in
        subst (λ (q : JournaledOutcome). IsOutcome j.call (beside_journal q))
        (outcome_refused _ (journaled_lent j) (journaled_run j) (suc m) (rw (e, f) refl) h) (apply_refused j.call (suc m) (sym e) h)

pub same_as_plain : SameAsPlain
same_as_plain j o p i q n = ap beside_journal i.is ∙ (plain j n).is ∙ sym q.is

pub done_as_plain : DoneAsPlain
done_as_plain j o p d q = same_as_plain j o p d.is q (not_25 j o d)
