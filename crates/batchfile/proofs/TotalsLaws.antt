-- Laws of a batch's totals: counts and amounts are sums, each term with its bound; and the totals of the first details. Assumes nothing.
use mathlib.Core.Path.{◌≡◌, refl}
use mathlib.Core.Bool.{Bool, true, false, cond, ◌&&◌}
use mathlib.Core.List.{List}
use Prim.Native.Nat.{ℕ, ◌+◌, ◌*◌, ◌^◌, ◌≤◌, ◌<◌}
use native.Mathlib.Omega.{arith}
use lib.Dec.{eqb}
use lib.ListN.{take, drop}
use Rattle.text.specs.Characters.{A, N}
use Rattle.text.specs.Fields.{columns, are_digits, number}
use Rattle.text.specs.Blocks.{blocks}
use Rattle.text.proofs.FieldsLaws.{and_right, digits_width, digits_all}
use Rattle.text.proofs.NumberLaws.{number_below}
use Rattle.layout.specs.Record.{case_type_of}
use Rattle.batchfile.specs.Totals.{are_counts_right, are_amounts_right, count_of, amount_in, amount_of}
use Rattle.batchfile.specs.TotalsParts.{counts_agree, amounts_agree, count_in, has_amount, FitsOneMore, IsAdded, AreTotals}
use Rattle.batchfile.specs.declared.totals.Totals.{Totals}
use Rattle.text.proofs.SumLaws.{IsSum, sum-next, sum_end, sum_below}

-- ---- counts and amounts

pub count_sum : (t : ℕ) → IsSum (count_in t) (count_of t)
unfolding count_of
count_sum t = record { none = refl; more = λ b bs. refl }

pub amount-sum : (t : ℕ) → IsSum (amount_in t) (amount_of t)
unfolding amount_of
amount-sum t = record { none = refl; more = λ b bs. refl }

pub count_small : (t : ℕ) (d : List ℕ) → count_in t d ≤ 1
count_small t d = go (eqb (case_type_of d) t)
  where
    go : (b : Bool) → cond b 1 0 ≤ 1
    go true = omega arith
    go false = omega arith

-- eight digits
pub amount_small : (t : ℕ) (d : List ℕ) → amount_in t d ≤ 10 ^ 8
unfolding amount_in
amount_small t d =
    go (eqb (case_type_of d) t && (has_amount d && are_digits 8 (columns 65 72 d)))
    (λ h. digits (and_right (has_amount d) (are_digits 8 (columns 65 72 d)) (and_right (eqb (case_type_of d) t) _ h)))
  where
    digits : are_digits 8 (columns 65 72 d) ≡ true → number (columns 65 72 d) < 10 ^ 8
    digits h = rw (digits_width 8 (columns 65 72 d) h) at (number_below (columns 65 72 d) (digits_all 8 (columns 65 72 d) h))

    go : (b : Bool) → (b ≡ true → number (columns 65 72 d) < 10 ^ 8) → cond b (number (columns 65 72 d)) 0 ≤ 10 ^ 8
    go true h = omega (arith, h refl)
    go false h = omega arith

-- ---- the totals of the first details

-- what was added up and the details from i on make the whole
pub record AreSoFar (n : ℕ) (batch : List ℕ) (i : ℕ) (t : Totals) : Type 0 where
  pub tanf_count : t.tanf_count + count_of A (drop i (blocks 245 n batch)) ≡ count_of A (blocks 245 n batch)
  pub non_tanf_count : t.non_tanf_count + count_of N (drop i (blocks 245 n batch)) ≡ count_of N (blocks 245 n batch)
  pub tanf_amount : t.tanf_amount + amount_of A (drop i (blocks 245 n batch)) ≡ amount_of A (blocks 245 n batch)
  pub non_tanf_amount : t.non_tanf_amount + amount_of N (drop i (blocks 245 n batch)) ≡ amount_of N (blocks 245 n batch)

module _ (n : ℕ) (batch : List ℕ) (i : ℕ) (t : Totals) (s : AreSoFar n batch i t) where
  pub totals_room : n ≤ 2 ^ 32 → FitsOneMore t
  totals_room h =
      record {
        tanf_count = omega (arith, sum_below (count_sum A) 245 n batch 1 i _ (count_small A) s.tanf_count);
        non_tanf_count = omega (arith, sum_below (count_sum N) 245 n batch 1 i _ (count_small N) s.non_tanf_count);
        tanf_amount = omega (arith, sum_below (amount-sum A) 245 n batch (10 ^ 8) i _ (amount_small A) s.tanf_amount);
        non_tanf_amount = omega (arith, sum_below (amount-sum N) 245 n batch (10 ^ 8) i _ (amount_small N) s.non_tanf_amount);
      }

  pub totals_next : (new : Totals) → i < n → IsAdded (take 245 (drop (i * 245) batch)) t new → AreSoFar n batch (i + 1) new
  totals_next new l e =
      record {
        tanf_count = sum-next (count_sum A) 245 n batch i _ _ l e.tanf_count s.tanf_count;
        non_tanf_count = sum-next (count_sum N) 245 n batch i _ _ l e.non_tanf_count s.non_tanf_count;
        tanf_amount = sum-next (amount-sum A) 245 n batch i _ _ l e.tanf_amount s.tanf_amount;
        non_tanf_amount = sum-next (amount-sum N) 245 n batch i _ _ l e.non_tanf_amount s.non_tanf_amount;
      }

  pub totals_end : n ≤ i → AreTotals (blocks 245 n batch) t
  totals_end l =
      record {
        tanf_count = sum_end (count_sum A) 245 n batch i _ l s.tanf_count;
        non_tanf_count = sum_end (count_sum N) 245 n batch i _ l s.non_tanf_count;
        tanf_amount = sum_end (amount-sum A) 245 n batch i _ l s.tanf_amount;
        non_tanf_amount = sum_end (amount-sum N) 245 n batch i _ l s.non_tanf_amount;
      }

-- ---- the totals and the control record

module _ (rec : List ℕ) (details : List (List ℕ)) (t : Totals) (a : AreTotals details t) where
  pub counts_agree_lem : are_counts_right rec details ≡ counts_agree rec t
  unfolding are_counts_right
  counts_agree_lem = rw (a.tanf_count, a.non_tanf_count)

  pub amounts_agree_lem : are_amounts_right rec details ≡ amounts_agree rec t
  unfolding are_amounts_right
  amounts_agree_lem = rw (a.tanf_amount, a.non_tanf_amount)
