-- Laws of a batch's refusals: what a batch is that they let pass, and the number answered, in their order. Assumes nothing.
use mathlib.Core.Path.{◌≡◌, refl, sym, ap}
use mathlib.Core.Bool.{Bool, true, false, not, cond, ◌||◌}
use mathlib.Core.List.{List}
use Prim.Native.Nat.{ℕ, suc, ◌+◌, ◌*◌, ◌/◌, ◌%◌, ◌^◌, ◌≤◌}
use native.Mathlib.Omega.{arith}
use lib.Dec.{eqb, ltb}
use lib.ListN.{length, take, drop}
use borrow.Author.Tests.{ltb-false, eqb-true, eqb-false, not-false, ne_eqb}
use Rattle.text.specs.Blocks.{blocks}
use Rattle.text.proofs.BoolLaws.{or_left, or_right}
use Rattle.layout.specs.Limits.{max_rows}
use Rattle.layout.specs.Batch.{detail_count, details_of, control_of}
use Rattle.layout.proofs.LimitsLaws.{few_records}
use Rattle.answers.specs.Answer.{refuse_if}
use Rattle.batchfile.specs.Totals.{has_ctl, has_state, has_totals, are_counts_right, are_amounts_right}
use Rattle.batchfile.specs.TotalsParts.{AreTotals, counts_agree, amounts_agree}
use Rattle.batchfile.specs.Refusals.{refusal5, refusal6, refusal20, refusal21, refusal7, refusal8, batch_refusal}
use Rattle.batchfile.specs.declared.totals.Totals.{Totals}
use Rattle.batchfile.proofs.TotalsLaws.{counts_agree_lem, amounts_agree_lem}

-- one or more records and nothing behind them, not too many
pub record IsWhole (limit : ℕ) (batch : List ℕ) : Type 0 where
  pub one : 1 ≤ length batch / 245
  pub whole : length batch / 245 * 245 ≡ length batch
  pub few : length batch / 245 ≤ limit + 1

pub whole_batch : (limit : ℕ) (batch : List ℕ) → refusal5 limit batch ≡ false → IsWhole limit batch
unfolding refusal5
whole_batch limit batch f =
    let l = or_left (eqb (length batch) 0 || not (eqb (length batch % 245) 0)) (ltb (limit + 1) (length batch / 245)) f in
    let h = eqb-false (length batch) 0 (or_left (eqb (length batch) 0) (not (eqb (length batch % 245) 0)) l) in
    let z =
    eqb-true (length batch % 245) 0
    (not-false (eqb (length batch % 245) 0) (or_right (eqb (length batch) 0) (not (eqb (length batch % 245) 0)) l)) in
    record {
      one = omega (arith, h);
      whole = omega arith;
      few =
          ltb-false (limit + 1) (length batch / 245)
          (or_right (eqb (length batch) 0 || not (eqb (length batch % 245) 0)) (ltb (limit + 1) (length batch / 245)) f);
    }

-- so few that their totals can be added up
pub summed_details : (batch : List ℕ) → IsWhole max_rows batch → detail_count batch ≤ 2 ^ 32
summed_details batch w = omega (arith, w.few, few_records)

-- ---- the number answered

pub answer_5 : (limit : ℕ) (batch : List ℕ) → refusal5 limit batch ≡ true → 5 ≡ batch_refusal limit batch 0
unfolding batch_refusal
answer_5 limit batch t = rw t

module _ (limit : ℕ) (batch rec : List ℕ) (five : refusal5 limit batch ≡ false) (e : rec ≡ take 245 (drop (detail_count batch * 245) batch)) where
  -- what is read off the record at the batch's end is read off its control record
  of_control : (f : List ℕ → Bool) → f (control_of batch) ≡ f rec
  unfolding control_of
  of_control f = ap f (sym e)

  pub answer_6 : has_ctl rec ≡ false → 6 ≡ batch_refusal limit batch 0
  unfolding batch_refusal refusal6
  answer_6 f = rw (five, of_control has_ctl, f)

  module _ (six : has_ctl rec ≡ true) where
    pub answer_20 : has_state rec ≡ false → 20 ≡ batch_refusal limit batch 0
    unfolding batch_refusal refusal6 refusal20
    answer_20 f = rw (five, of_control has_ctl, six, of_control has_state, f)

    module _ (twenty : has_state rec ≡ true) where
      pub answer_21 : has_totals rec ≡ false → 21 ≡ batch_refusal limit batch 0
      unfolding batch_refusal refusal6 refusal20 refusal21
      answer_21 f = rw (five, of_control has_ctl, six, of_control has_state, twenty, of_control has_totals, f)

      module _ (twenty-one : has_totals rec ≡ true) (t : Totals) (a : AreTotals (blocks 245 (detail_count batch) batch) t) where
        -- a control record that has its form leaves the answer to 7 and 8
        behind_form : batch_refusal limit batch 0 ≡ refuse_if (refusal7 batch) 7 (refuse_if (refusal8 batch) 8 0)
        unfolding batch_refusal refusal6 refusal20 refusal21
        behind_form = rw (five, of_control has_ctl, six, of_control has_state, twenty, of_control has_totals, twenty-one)

        counts_right : are_counts_right (control_of batch) (details_of batch) ≡ counts_agree rec t
        unfolding control_of details_of
        counts_right = rw (← e) (counts_agree_lem rec (blocks 245 (detail_count batch) batch) t a)

        amounts_right : are_amounts_right (control_of batch) (details_of batch) ≡ amounts_agree rec t
        unfolding control_of details_of
        amounts_right = rw (← e) (amounts_agree_lem rec (blocks 245 (detail_count batch) batch) t a)

        pub answer_7 : counts_agree rec t ≡ false → 7 ≡ batch_refusal limit batch 0
        unfolding refusal7
        answer_7 f = rw (behind_form, counts_right, f)

        module _ (seven : counts_agree rec t ≡ true) where
          pub answer_8 : amounts_agree rec t ≡ false → 8 ≡ batch_refusal limit batch 0
          unfolding refusal7 refusal8
          answer_8 f = rw (behind_form, counts_right, seven, amounts_right, f)

          pub answer_0 : amounts_agree rec t ≡ true → 0 ≡ batch_refusal limit batch 0
          unfolding refusal7 refusal8
          answer_0 h = rw (behind_form, counts_right, seven, amounts_right, h)

-- ---- with other refusals behind them

-- they are answered first, else what stands behind them
pub batch-behind : (limit : ℕ) (batch : List ℕ) (behind : ℕ)
    → batch_refusal limit batch behind ≡ cond (eqb (batch_refusal limit batch 0) 0) behind (batch_refusal limit batch 0)
unfolding batch_refusal
batch-behind limit batch behind =
    go 4 (refusal5 limit batch) _ _
    (go 5 (refusal6 batch) _ _
    (go 19 (refusal20 batch) _ _
    (go 20 (refusal21 batch) _ _
    (go 6 (refusal7 batch) _ _
    (go 7 (refusal8 batch) _ 0 refl)))))
  where
    -- one refusal more before others
    go : (k : ℕ) (holds : Bool) (more none : ℕ) → more ≡ cond (eqb none 0) behind none
        → refuse_if holds (suc k) more ≡ cond (eqb (refuse_if holds (suc k) none) 0) behind (refuse_if holds (suc k) none)
    go k true more none e = rw (ne_eqb (suc k) 0 (λ z. omega arith))
    go k false more none e = e

-- ---- a batch that is not refused

-- a condition that doesn't hold, and what is behind it
pub not_first : (k : ℕ) (holds : Bool) (behind : ℕ) → refuse_if holds (suc k) behind ≡ 0 → (holds ≡ false) × (behind ≡ 0)
not_first k true behind e = absurd (omega arith)
not_first k false behind e = (refl, e)

-- all that follows from no refusal of a batch
pub record KnownBatch (limit : ℕ) (batch : List ℕ) : Type 0 where
  pub whole : IsWhole limit batch
  pub ctl : has_ctl (control_of batch) ≡ true
  pub state : has_state (control_of batch) ≡ true
  pub totals : has_totals (control_of batch) ≡ true
  pub counts : are_counts_right (control_of batch) (details_of batch) ≡ true
  pub amounts : are_amounts_right (control_of batch) (details_of batch) ≡ true

-- none of them holds, nor one behind them
pub batch_known : (limit : ℕ) (batch : List ℕ) (behind : ℕ) → batch_refusal limit batch behind ≡ 0 → KnownBatch limit batch × (behind ≡ 0)
unfolding batch_refusal refusal6 refusal20 refusal21 refusal7 refusal8
batch_known limit batch behind e =
    let p5 = not_first 4 _ _ e in
    let p6 = not_first 5 _ _ p5.1 in
    let p20 = not_first 19 _ _ p6.1 in
    let p21 = not_first 20 _ _ p20.1 in
    let p7 = not_first 6 _ _ p21.1 in
    let p8 = not_first 7 _ _ p7.1 in (
      record {
        whole = whole_batch limit batch p5.0;
        ctl = not-false (has_ctl (control_of batch)) p6.0;
        state = not-false (has_state (control_of batch)) p20.0;
        totals = not-false (has_totals (control_of batch)) p21.0;
        counts = not-false (are_counts_right (control_of batch) (details_of batch)) p7.0;
        amounts = not-false (are_amounts_right (control_of batch) (details_of batch)) p8.0;
      },
      p8.1,
    )
