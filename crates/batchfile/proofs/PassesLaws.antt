-- Laws of a batch that passes its refusals: its length and its details, its state, and that the totals it states are those of its details;
-- and that a batch of which all that is known passes. Assumes nothing.
use Prim.Native.Nat.{ℕ, ◌+◌, ◌*◌, ◌/◌, ◌%◌, ◌≤◌}
use mathlib.Core.Path.{◌≡◌, ap}
use mathlib.Core.Bool.{true, false}
use mathlib.Core.List.{List, [], ◌∷◌, ◌++◌}
use native.Mathlib.Omega.{arith}
use borrow.Author.Tests.{le-ltb, eqb-true, eq-eqb, ne_eqb}
use lib.Dec.{eqb}
use lib.ListN.{length, take}
use Rattle.text.specs.Characters.{A, N}
use Rattle.text.specs.Blocks.{joined}
use Rattle.text.specs.Fields.{number}
use Rattle.text.proofs.BoolLaws.{and_both}
use Rattle.text.proofs.FieldsLaws.{and_left, and_right}
use Rattle.text.proofs.BlocksLaws.{length-blocks, joined-blocks}
use Rattle.text.proofs.SumLaws.{IsSum, sum_bound}
use Rattle.text.proofs.WidthLaws.{All, blocks_wide}
use Rattle.layout.specs.ChartA2.{total_tanf, total_non_tanf, amount_tanf, amount_non_tanf}
use Rattle.layout.specs.Batch.{detail_count, details_of, control_of, submitting_state}
use Rattle.layout.specs.States.{is_state}
use Rattle.layout.proofs.StatesLaws.{state_wide}
use Rattle.batchfile.specs.Totals.{has_state, count_of, amount_of, are_counts_right, are_amounts_right}
use Rattle.batchfile.specs.Stated.{Stated, stated_by, stated_sum}
use Rattle.batchfile.specs.Refusals.{refusal5, refusal6, refusal20, refusal21, refusal7, refusal8, batch_refusal}
use Rattle.batchfile.proofs.TotalsLaws.{count_sum, amount-sum, count_small}
use Rattle.batchfile.proofs.RefusalsLaws.{IsWhole, KnownBatch}

-- ---- the totals of details

abbrev pub totals_of : List (List ℕ) → Stated
totals_of details =
    record {
      tanf_count = count_of A details;
      non_tanf_count = count_of N details;
      tanf_amount = amount_of A details;
      non_tanf_amount = amount_of N details;
    }

pub sum-append : {f : List ℕ → ℕ} {sum : List (List ℕ) → ℕ} → IsSum f sum → (xs ys : List (List ℕ)) → sum (xs ++ ys) ≡ sum xs + sum ys
sum-append s [] ys = omega (arith, s.none)
sum-append s (x ∷ xs) ys = omega (arith, s.more x (xs ++ ys), s.more x xs, sum-append s xs ys)

pub totals_append : (xs ys : List (List ℕ)) → totals_of (xs ++ ys) ≡ stated_sum (totals_of xs) (totals_of ys)
totals_append xs ys =
    rw (
      sum-append (count_sum A) xs ys,
      sum-append (count_sum N) xs ys,
      sum-append (amount-sum A) xs ys,
      sum-append (amount-sum N) xs ys,
    )

-- the stated totals are those of the details exactly where 7 and 8 don't hold
pub totals_right : (limit : ℕ) (batch : List ℕ) → KnownBatch limit batch → stated_by (control_of batch) ≡ totals_of (details_of batch)
unfolding are_counts_right are_amounts_right
totals_right limit batch k =
    let rec : List ℕ = control_of batch in
    let details : List (List ℕ) = details_of batch in
    rw (
      eqb-true (number (total_tanf rec)) (count_of A details) (and_left (eqb (number (total_tanf rec)) (count_of A details)) (eqb (number (total_non_tanf rec)) (count_of N details)) k.counts),
      eqb-true (number (total_non_tanf rec)) (count_of N details) (and_right (eqb (number (total_tanf rec)) (count_of A details)) (eqb (number (total_non_tanf rec)) (count_of N details)) k.counts),
      eqb-true (number (amount_tanf rec)) (amount_of A details) (and_left (eqb (number (amount_tanf rec)) (amount_of A details)) (eqb (number (amount_non_tanf rec)) (amount_of N details)) k.amounts),
      eqb-true (number (amount_non_tanf rec)) (amount_of N details) (and_right (eqb (number (amount_tanf rec)) (amount_of A details)) (eqb (number (amount_non_tanf rec)) (amount_of N details)) k.amounts),
    )

module _ (rec : List ℕ) (details : List (List ℕ)) (e : stated_by rec ≡ totals_of details) where
  pub counts_right : are_counts_right rec details ≡ true
  unfolding are_counts_right
  counts_right =
      and_both (eqb (number (total_tanf rec)) (count_of A details)) (eqb (number (total_non_tanf rec)) (count_of N details))
      (eq-eqb (number (total_tanf rec)) (count_of A details) (ap (λ (s : Stated). s.tanf_count) e))
      (eq-eqb (number (total_non_tanf rec)) (count_of N details) (ap (λ (s : Stated). s.non_tanf_count) e))

  pub amounts_right : are_amounts_right rec details ≡ true
  unfolding are_amounts_right
  amounts_right =
      and_both (eqb (number (amount_tanf rec)) (amount_of A details)) (eqb (number (amount_non_tanf rec)) (amount_of N details))
      (eq-eqb (number (amount_tanf rec)) (amount_of A details) (ap (λ (s : Stated). s.tanf_amount) e))
      (eq-eqb (number (amount_non_tanf rec)) (amount_of N details) (ap (λ (s : Stated). s.non_tanf_amount) e))

-- ---- a batch that passes

module _ (limit : ℕ) (batch : List ℕ) (k : KnownBatch limit batch) where
  pub batch-length : detail_count batch * 245 + 245 ≡ length batch
  batch-length = omega (arith, k.whole.one, k.whole.whole)

  pub details_joined : joined (details_of batch) ≡ take (detail_count batch * 245) batch
  unfolding details_of
  details_joined = joined-blocks 245 (detail_count batch) batch (omega (arith, batch-length))

  pub details_length : length (details_of batch) ≡ detail_count batch
  unfolding details_of
  details_length = length-blocks 245 (detail_count batch) batch

  pub details_wide : All (λ (d : List ℕ). length d ≡ 245) (details_of batch)
  unfolding details_of
  details_wide = blocks_wide 245 (detail_count batch) batch (omega (arith, batch-length))

  pub state_two : length (submitting_state batch) ≡ 2
  unfolding has_state
  state_two = state_wide (submitting_state batch) k.state

  pub first_state : is_state (submitting_state batch) ≡ true
  unfolding has_state
  first_state = k.state

  pub counts_few : (t : ℕ) → count_of t (details_of batch) ≤ detail_count batch
  counts_few t = omega (arith, sum_bound (count_sum t) 1 (count_small t) (details_of batch), details_length)

-- ---- it passes

pub whole_length : (limit : ℕ) (batch : List ℕ) → IsWhole limit batch → refusal5 limit batch ≡ false
unfolding refusal5
whole_length limit batch w =
    let a = w.one in
    let b = w.whole in
    rw (
      ne_eqb (length batch) 0 (λ z. omega arith),
      eq-eqb (length batch % 245) 0 (omega arith),
      le-ltb (limit + 1) (length batch / 245) w.few,
    )

pub known_passes : (limit : ℕ) (batch : List ℕ) → KnownBatch limit batch → batch_refusal limit batch 0 ≡ 0
unfolding batch_refusal refusal6 refusal20 refusal21 refusal7 refusal8
known_passes limit batch k = rw (whole_length limit batch k.whole, k.ctl, k.state, k.totals, k.counts, k.amounts)
