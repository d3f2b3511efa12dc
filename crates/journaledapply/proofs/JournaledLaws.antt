-- Laws of the outcome with a journal: each way out of the call. Assumes nothing.
use Prim.Native.Nat.{ℕ, ◌+◌, ◌≤◌}
use mathlib.Core.Path.{◌≡◌, refl, sym, ◌∙◌}
use mathlib.Core.Bool.{Bool, true, false}
use mathlib.Core.List.{List}
use native.Mathlib.Omega.{arith}
use lib.ListN.{length}
use borrow.Author.Tests.{ne_eqb, ltb-false}
use Rattle.answers.specs.Refusal.{refusal_number_of}
use Rattle.answers.specs.declared.refusal.Refusal.{Refusal}
use Rattle.answers.specs.declared.refusal.Refusal.TheVariants.{ShortJournal}
use Rattle.answers.proofs.AnswerLaws.{outcome_done}
use Rattle.answers.proofs.RefusalLaws.{outcome_err, number_above_zero}
use Rattle.std.specs.Prelude.{Ok, Err}
use Rattle.answers.specs.Answer.{done, Run}
use Rattle.text.specs.Blocks.{over, spliced}
use Rattle.layout.specs.Batch.{detail_count}
use Rattle.journal.specs.Space.{journal_space}
use Rattle.batch.specs.Call.{Call}
use Rattle.batch.specs.Refusals.{apply_refusal}
use Rattle.batch.specs.Apply.{ApplyResult, ApplyBuffers}
use Rattle.batch.specs.Journaling.{RunJournaled}
use Rattle.batch.specs.declared.apply.RunResult.{RunResult}
use Rattle.journaledapply.specs.Journaled.{refusal25, journaled_refusal, call_journal, JournaledOutcome, journaled_lent, journaled_run, journaled_outcome, journaled_as, with_journal, IsJournaled}

spliced-over : (bytes d : List ℕ) → spliced d 0 bytes ≡ over bytes d
unfolding spliced over
spliced-over bytes d = let e : 0 + length bytes ≡ length bytes = omega arith in rw e

module _ (c : Call) (journal : List ℕ) where
  pub journaled_refused : (r : Refusal) → refusal_number_of r ≡ apply_refusal c
      → IsJournaled (with_journal c journal) (journaled_as (Err r) c.master c.verdicts c.rejects journal)
  unfolding journaled_outcome journaled_refusal
  journaled_refused r e =
      let j = with_journal c journal in
      record { is = outcome_err _ (journaled_lent j) (journaled_run j) r (rw (← e, ne_eqb (refusal_number_of r) 0 (number_above_zero r)) refl) }

  module _ (e : apply_refusal c ≡ 0) (t : Bool) (f : t ≡ refusal25 c.batch journal) where
    pub journaled_25 : t ≡ true → IsJournaled (with_journal c journal) (journaled_as (Err ShortJournal) c.master c.verdicts c.rejects journal)
    unfolding journaled_outcome journaled_refusal
    journaled_25 g =
        let j = with_journal c journal in
        record { is = outcome_err _ (journaled_lent j) (journaled_run j) ShortJournal (rw (e, ← f, g) refl) }

    -- a journal that isn't too short
    pub has_space : t ≡ false → journal_space (detail_count c.batch) ≤ length journal
    unfolding refusal25
    has_space g = ltb-false (length journal) (journal_space (detail_count c.batch)) (sym f ∙ g)

    pub journaled_done : t ≡ false → (master verdicts rejects : List ℕ) (r : RunResult) (journal' : List ℕ)
        → RunJournaled c true journal master verdicts rejects r journal'
        → IsJournaled (with_journal c journal)
        (journaled_as (Ok r) master verdicts rejects journal')
    unfolding journaled_outcome journaled_refusal call_journal
    journaled_done g master verdicts rejects r journal' n =
        let j = with_journal c journal in
        let a : journal' ≡ over (call_journal c) journal = n.wrote.bytes_are ∙ spliced-over (call_journal c) journal in
        let b : r.written ≡ length (call_journal c) = n.wrote.next_is ∙ omega arith in
        record { is = joined_up n.is b a ∙ outcome_done _ (journaled_lent j) (journaled_run j) (rw (e, ← f, g) refl) }
      where
        joined_up : {p q : Run ApplyResult ApplyBuffers} {x y : ℕ} {v w : List ℕ} → p ≡ q → x ≡ y → v ≡ w
            → ◌≡◌ {A = JournaledOutcome}
            (record { answer = done (record { applied = p.result; written = x }); buffers = record { applied = p.buffers; journal = v } })
            (record { answer = done (record { applied = q.result; written = y }); buffers = record { applied = q.buffers; journal = w } })
        joined_up p s t = λ k.
            record {
              answer = done (record { applied = (p k).result; written = s k });
              buffers = record { applied = (p k).buffers; journal = t k };
            }
