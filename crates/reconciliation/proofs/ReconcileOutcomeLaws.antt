-- Laws of the outcome of reconciliation: each refusal, where those before it do not hold, and the call carried out. Assumes nothing.
use Prim.Native.Nat.{ℕ, ◌+◌, ◌*◌, ◌/◌, ◌≤◌, ◌<◌}
use mathlib.Core.Path.{◌≡◌, sym, ◌∙◌}
use mathlib.Core.List.{List, ◌++◌}
use mathlib.Core.Bool.{true, false}
use native.Mathlib.Omega.{arith}
use borrow.Author.Tests.{lt-ltb, le-ltb}
use lib.ListN.{length}
use Rattle.answers.specs.Refusal.{refusal_number_of}
use Rattle.answers.specs.declared.refusal.Refusal.{Refusal}
use Rattle.answers.specs.declared.refusal.Refusal.TheVariants.{ShortOutput, WrongState, WrongDate}
use Rattle.answers.proofs.AnswerLaws.{outcome_done}
use Rattle.answers.proofs.RefusalLaws.{outcome_err}
use Rattle.std.specs.Prelude.{Ok, Err}
use Rattle.layout.specs.States.{is_state}
use Rattle.dates.specs.Calendar.{is_date}
use Rattle.text.specs.Blocks.{joined, over}
use Rattle.casemaster.specs.Master.{rows_of}
use Rattle.reconciliation.specs.Reconcile.{rec_records, rct_record, refusal12, refusal13, refusal_of_space, reconcile_refusal, ReconcileOutcome, reconciled_as, reconcile_run, reconcile_outcome}
use Rattle.casemaster.proofs.RefusalsLaws.{master_passed, master_err}
use Rattle.casemaster.specs.Refusals.{master_refusal}

module _ (limit : ℕ) (master : List ℕ) (rows : ℕ) (state date out : List ℕ) where
  abbrev refusal : ℕ
  refusal = reconcile_refusal limit master rows state date out

  abbrev outcome : ReconcileOutcome
  outcome = reconcile_outcome limit master rows state date out

  abbrev records : List (List ℕ)
  records = rec_records state (rows_of rows master)

  reconcile_refused : (r : Refusal) → refusal_number_of r ≡ refusal → reconciled_as (Err r) out ≡ outcome
  unfolding reconcile_outcome
  reconcile_refused = outcome_err refusal out (reconcile_run master rows state date out)

  pub reconcile_master : (r : Refusal) → refusal_number_of r ≡ master_refusal limit master rows 0 → reconciled_as (Err r) out ≡ outcome
  unfolding reconcile_refusal
  reconcile_master r e = reconcile_refused r (master_err limit master rows r e _)

  module _ (e : master_refusal limit master rows 0 ≡ 0) where
    pub reconcile_12 : is_state state ≡ false → reconciled_as (Err WrongState) out ≡ outcome
    unfolding reconcile_refusal refusal12
    reconcile_12 s = reconcile_refused WrongState (sym (master_passed limit master rows e _ ∙ rw s))

    module _ (s : is_state state ≡ true) where
      pub reconcile_13 : is_date date ≡ false → reconciled_as (Err WrongDate) out ≡ outcome
      unfolding reconcile_refusal refusal12 refusal13
      reconcile_13 d = reconcile_refused WrongDate (sym (master_passed limit master rows e _ ∙ rw (s, d)))

      module _ (d : is_date date ≡ true) where
        pub reconcile_11 : length out / 245 ≤ length records → reconciled_as (Err ShortOutput) out ≡ outcome
        unfolding reconcile_refusal refusal12 refusal13 refusal_of_space
        reconcile_11 l =
            let b = lt-ltb (length out) (245 * (length records + 1)) (omega arith) in
            reconcile_refused ShortOutput (sym (master_passed limit master rows e _ ∙ rw (s, d, b)))

        pub reconcile_done : (n : ℕ) (after : List ℕ) → length records < length out / 245 → n ≡ length records
            → after ≡ over (joined records ++ rct_record state date (rows_of rows master)) out
            → reconciled_as (Ok n) after ≡ outcome
        unfolding reconcile_outcome reconcile_refusal refusal12 refusal13 refusal_of_space
        reconcile_done n after l en ea =
            let b = le-ltb (length out) (245 * (length records + 1)) (omega arith) in
            let p : refusal ≡ 0 = master_passed limit master rows e _ ∙ rw (s, d, b) in
            rw (en, ea) (outcome_done refusal out (reconcile_run master rows state date out) p)
