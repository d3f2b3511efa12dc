-- Laws of the merged batch: what holds of two batches that can be merged, the merged batch's details and control record, and that it passes
-- the refusals of a batch, its stated totals being those of its details. Assumes nothing.
use Prim.Native.Nat.{ℕ, ◌+◌, ◌*◌, ◌^◌, ◌≤◌, ◌<◌}
use mathlib.Core.Path.{◌≡◌, refl, sym, ap, ap₂, ◌∙◌}
use mathlib.Core.Bool.{Bool, true, false, not, cond, ◌||◌}
use mathlib.Core.List.{List, [], ◌∷◌, ◌++◌, append-nil}
use native.Mathlib.Omega.{arith}
use borrow.Author.Tests.{ltb-true, ltb-false, lt-ltb, le-ltb, eqb-true, eqb-false, eq-eqb, ne_eqb, not-false}
use lib.Dec.{eqb, ltb}
use lib.ListN.{length, take, drop, length-append, take-append-drop}
use lib.Seq.{length-take-le, take_all, take_at, drop_at}
use Rattle.answers.specs.Refusal.{refusal_number_of}
use Rattle.answers.specs.declared.refusal.Refusal.{Refusal}
use Rattle.answers.proofs.AnswerLaws.{outcome_done, none_holds}
use Rattle.answers.proofs.RefusalLaws.{outcome_err}
use Rattle.std.specs.Prelude.{Ok, Err}
use Rattle.text.specs.Characters.{A, N}
use Rattle.text.specs.Blocks.{blocks, joined, over, spliced}
use Rattle.text.specs.Fields.{same_bytes}
use Rattle.text.proofs.BoolLaws.{or_left, or_right}
use Rattle.text.proofs.SameLaws.{same_eq}
use Rattle.text.proofs.SplicedLaws.{length-spliced, take_through, drop-spliced}
use Rattle.text.proofs.WidthLaws.{all_append, blocks-joined, joined-append}
use Rattle.layout.specs.ChartA2.{control_state}
use Rattle.layout.specs.Batch.{detail_count, details_of, control_of, submitting_state}
use Rattle.batchfile.specs.Totals.{has_ctl, has_state, has_totals, count_of}
use Rattle.batchfile.specs.Refusals.{batch_refusal}
use Rattle.batchfile.proofs.TotalsLaws.{count_sum}
use Rattle.batchfile.proofs.RefusalsLaws.{KnownBatch, batch_known, batch-behind, not_first}
use Rattle.batchfile.specs.Stated.{Stated, stated_by, stated_sum, totals_record}
use Rattle.answers.specs.Answer.{is_carried_out}
use Rattle.merging.specs.Merge.{merged_totals, merged_control, merged_batch, merged_count, is_above_eleven, refusal32, refusal33, both_refusal, merge_refusal, MergeCall, MergeOutcome, merged_as, merge_run, merge_outcome, IsMerge, records_written}
use Rattle.batchfile.proofs.PassesLaws.{totals_of, sum-append, totals_append, totals_right, counts_right, amounts_right, batch-length, details_joined, details_length, details_wide, state_two, first_state, counts_few, known_passes}
use Rattle.batchfile.proofs.StatedLaws.{length-control, control-columns, has_ctl_lem, has_state_lem, has_totals_lem, stated_back}

-- ---- two batches merged

-- both pass, and 32 doesn't hold
pub record Mergeable (limit : ℕ) (first second : List ℕ) : Type 0 where
  pub first_known : KnownBatch limit first
  pub second_known : KnownBatch limit second
  pub same_state_lem : submitting_state first ≡ submitting_state second
  pub few : merged_count first second ≤ limit + 1
  pub tanf_in : (merged_totals first second).tanf_amount ≤ 99999999999
  pub non_tanf_in : (merged_totals first second).non_tanf_amount ≤ 99999999999

pub merge_known : (limit : ℕ) (first second out : List ℕ) → merge_refusal limit first second out ≡ 0
    → Mergeable limit first second × (length (merged_batch first second) ≤ length out)
unfolding merge_refusal refusal32 refusal33
merge_known limit first second out e =
    let a = batch_known limit first _ e in
    let b = batch_known limit second _ a.1 in
    let c = not_first 31 (refusal32 limit first second) _ b.1 in
    let d = not_first 32 (refusal33 first second out) _ c.1 in
    let other : Bool = not (same_bytes (submitting_state first) (submitting_state second)) in
    let many : Bool = ltb limit (detail_count first + detail_count second) in
    let tanf : Bool = is_above_eleven (merged_totals first second).tanf_amount in
    let non_tanf : Bool = is_above_eleven (merged_totals first second).non_tanf_amount in
    let left = or_left (other || many) (tanf || non_tanf) c.0 in
    let right = or_right (other || many) (tanf || non_tanf) c.0 in (
      record {
        first_known = a.0;
        second_known = b.0;
        same_state_lem =
            same_eq (submitting_state first) (submitting_state second)
            (not-false (same_bytes (submitting_state first) (submitting_state second)) (or_left other many left));
        few =
            let h = ltb-false limit (detail_count first + detail_count second) (or_right other many left) in
            omega arith;
        tanf_in = ltb-false 99999999999 (merged_totals first second).tanf_amount (or_left tanf non_tanf right);
        non_tanf_in = ltb-false 99999999999 (merged_totals first second).non_tanf_amount (or_right tanf non_tanf right);
      },
      ltb-false (length out) (length (merged_batch first second)) d.0,
    )

module _ (limit : ℕ) (first second : List ℕ) (a : KnownBatch limit first) (b : KnownBatch limit second) where
  abbrev both : List (List ℕ)
  both = details_of first ++ details_of second

  abbrev n : ℕ
  n = detail_count first + detail_count second

  control_wide : length (merged_control first second) ≡ 245
  unfolding merged_control
  control_wide = length-control (submitting_state first) (merged_totals first second) (state_two limit first a)

  -- its bytes: the details, then the control record
  pub merged_is : merged_batch first second ≡ joined (details_of first ++ details_of second) ++ merged_control first second
  unfolding merged_batch joined
  merged_is =
      joined-append both (merged_control first second ∷ [])
      ∙ ap (λ (z : List ℕ). joined both ++ z) (append-nil (merged_control first second))

  both_joined : joined both ≡ take (detail_count first * 245) first ++ take (detail_count second * 245) second
  both_joined = joined-append (details_of first) (details_of second) ∙ rw (details_joined limit first a, details_joined limit second b) refl

  pub merged_parts : merged_batch first second
      ≡ (take (detail_count first * 245) first ++ take (detail_count second * 245) second) ++ merged_control first second
  merged_parts = merged_is ∙ ap (λ (z : List ℕ). z ++ merged_control first second) both_joined

  joined_length : length (joined both) ≡ n * 245
  joined_length =
      ap length both_joined
      ∙ length-append (take (detail_count first * 245) first) (take (detail_count second * 245) second)
      ∙ omega (
        arith,
        length-take-le (detail_count first * 245) first (omega (arith, batch-length limit first a)),
        length-take-le (detail_count second * 245) second (omega (arith, batch-length limit second b)),
      )

  pub merged_length : length (merged_batch first second) ≡ (merged_count first second) * 245
  merged_length =
      ap length merged_is ∙ length-append (joined both) (merged_control first second) ∙ omega (arith, joined_length, control_wide)

  pub merged_count_lem : detail_count (merged_batch first second) ≡ detail_count first + detail_count second
  merged_count_lem = omega (arith, merged_length)

  both_length : length both ≡ n
  both_length = length-append (details_of first) (details_of second) ∙ omega (arith, details_length limit first a, details_length limit second b)

  -- the first's details, then the second's
  pub merged_details : details_of (merged_batch first second) ≡ details_of first ++ details_of second
  unfolding details_of
  merged_details =
      ap (λ (k : ℕ). blocks 245 k (merged_batch first second)) (merged_count_lem ∙ sym both_length)
      ∙ ap (blocks 245 (length both)) merged_is
      ∙ blocks-joined 245 both (merged_control first second)
      (all_append (λ (d : List ℕ). length d ≡ 245) (details_of first) (details_of second) (details_wide limit first a) (details_wide limit second b))

  pub merged_control_lem : control_of (merged_batch first second) ≡ merged_control first second
  unfolding control_of
  merged_control_lem =
      let e : length (joined both) ≡ detail_count (merged_batch first second) * 245 = omega (arith, joined_length, merged_count_lem) in
      ap (λ (z : List ℕ). take 245 (drop (detail_count (merged_batch first second) * 245) z)) merged_is
      ∙ ap (take 245) (drop_at (joined both) (merged_control first second) (detail_count (merged_batch first second) * 245) e)
      ∙ take_all 245 (merged_control first second) (omega (arith, control_wide))

  pub merged_state : submitting_state (merged_batch first second) ≡ submitting_state first
  unfolding merged_control
  merged_state =
      ap control_state merged_control_lem ∙ (control-columns (submitting_state first) (merged_totals first second) (state_two limit first a)).state_is

  -- ---- it passes

  module _ (few : n + 1 ≤ limit + 1) (small : limit < 10 ^ 9) (tanf_in : (merged_totals first second).tanf_amount ≤ 99999999999)
      (non_tanf_in : (merged_totals first second).non_tanf_amount ≤ 99999999999) where
    summed_right : merged_totals first second ≡ totals_of both
    summed_right = ap₂ stated_sum (totals_right limit first a) (totals_right limit second b) ∙ sym (totals_append (details_of first) (details_of second))

    count_fits : (t : ℕ) → count_of t both < 10 ^ 9
    count_fits t =
        omega (arith, sum-append (count_sum t) (details_of first) (details_of second), counts_few limit first a t, counts_few limit second b t, few, small)

    -- the totals that it states are those of its details
    pub merged_states : stated_by (control_of (merged_batch first second)) ≡ totals_of (details_of (merged_batch first second))
    unfolding merged_control
    merged_states =
        ap stated_by merged_control_lem
        ∙ stated_back (submitting_state first) (merged_totals first second) (state_two limit first a)
        (omega (arith, ap (λ (s : Stated). s.tanf_count) summed_right, count_fits A))
        (omega (arith, ap (λ (s : Stated). s.non_tanf_count) summed_right, count_fits N))
        (omega (arith, tanf_in)) (omega (arith, non_tanf_in))
        ∙ summed_right
        ∙ sym (ap totals_of merged_details)

    form : control_of (merged_batch first second) ≡ totals_record (submitting_state first) (merged_totals first second)
    unfolding merged_control
    form = merged_control_lem

    merged_known : KnownBatch limit (merged_batch first second)
    merged_known =
        record {
          whole =
              record {
                one = omega (arith, merged_length);
                whole = omega (arith, merged_length);
                few = omega (arith, merged_length, few);
              };
          ctl = ap has_ctl form ∙ has_ctl_lem (submitting_state first) (merged_totals first second) (state_two limit first a);
          state = ap has_state form ∙ has_state_lem (submitting_state first) (merged_totals first second) (state_two limit first a) (first_state limit first a);
          totals = ap has_totals form ∙ has_totals_lem (submitting_state first) (merged_totals first second) (state_two limit first a);
          counts = counts_right (control_of (merged_batch first second)) (details_of (merged_batch first second)) merged_states;
          amounts = amounts_right (control_of (merged_batch first second)) (details_of (merged_batch first second)) merged_states;
        }

    pub merged_passes : batch_refusal limit (merged_batch first second) 0 ≡ 0
    merged_passes = known_passes limit (merged_batch first second) merged_known

-- ---- the answer

module _ (limit : ℕ) (first second out : List ℕ) (a : ℕ) (ea : a ≡ batch_refusal limit first 0) where
  abbrev behind_both : ℕ
  behind_both = both_refusal limit first second out

  behind_first : merge_refusal limit first second out ≡ cond (eqb a 0) (batch_refusal limit second behind_both) a
  unfolding merge_refusal
  behind_first = batch-behind limit first (batch_refusal limit second behind_both) ∙ rw (← ea)

  pub answer_first : (a ≡ 0 → ⊥) → a ≡ merge_refusal limit first second out
  answer_first n = sym (behind_first ∙ rw (ne_eqb a 0 n))

  module _ (za : a ≡ 0) (b : ℕ) (eb : b ≡ batch_refusal limit second 0) where
    behind_second : merge_refusal limit first second out ≡ cond (eqb b 0) behind_both b
    behind_second = behind_first ∙ rw (eq-eqb a 0 za) (batch-behind limit second behind_both ∙ rw (← eb))

    pub answer_second : (b ≡ 0 → ⊥) → b ≡ merge_refusal limit first second out
    answer_second n = sym (behind_second ∙ rw (ne_eqb b 0 n))

    module _ (zb : b ≡ 0) where
      past_both : merge_refusal limit first second out ≡ behind_both
      past_both = behind_second ∙ rw (eq-eqb b 0 zb)

      pub answer_32 : refusal32 limit first second ≡ true → 32 ≡ merge_refusal limit first second out
      answer_32 t = sym (past_both ∙ rw t)

      module _ (no32 : refusal32 limit first second ≡ false) (n : ℕ) (en : n ≡ merged_count first second) where
        known_first : KnownBatch limit first
        known_first = (batch_known limit first 0 (sym ea ∙ za)).0

        known_second : KnownBatch limit second
        known_second = (batch_known limit second 0 (sym eb ∙ zb)).0

        long : length (merged_batch first second) ≡ n * 245
        long = omega (arith, merged_length limit first second known_first known_second, en)

        pub answer_33 : length out < n * 245 → 33 ≡ merge_refusal limit first second out
        unfolding refusal33
        answer_33 l = sym (past_both ∙ rw (no32, lt-ltb (length out) (length (merged_batch first second)) (omega (arith, long))))

        pub answer_0 : n * 245 ≤ length out → 0 ≡ merge_refusal limit first second out
        unfolding refusal33
        answer_0 l = sym (past_both ∙ rw (no32, le-ltb (length out) (length (merged_batch first second)) (omega (arith, long))))

-- one more on both sides
one_more_lem : (m n : ℕ) → ltb (m + 1) (n + 1) ≡ ltb m n
one_more_lem m n = go (ltb m n) refl
  where
    go : (b : Bool) → ltb m n ≡ b → ltb (m + 1) (n + 1) ≡ b
    go true e = let h = ltb-true m n e in lt-ltb (m + 1) (n + 1) (omega arith)
    go false e = let h = ltb-false m n e in le-ltb (m + 1) (n + 1) (omega arith)

-- refusal 32, as the code tests it: the control record counts on both sides
pub cannot_told : (limit : ℕ) (first second : List ℕ) (same : Bool) (most n : ℕ) (t : Stated) → most ≡ limit + 1
    → same ≡ same_bytes (submitting_state first) (submitting_state second) → n ≡ merged_count first second
    → t ≡ merged_totals first second
    → (not same || ltb most n || (is_above_eleven t.tanf_amount || is_above_eleven t.non_tanf_amount)) ≡ refusal32 limit first second
unfolding refusal32
cannot_told limit first second same most n t el es en et = rw (el, es, en, et, one_more_lem limit (detail_count first + detail_count second))

-- both batches passed
pub both_passed : (limit : ℕ) (first second out : List ℕ) → merge_refusal limit first second out ≡ 0 → (batch_refusal limit first 0 ≡ 0) × (batch_refusal limit second 0 ≡ 0)
both_passed limit first second out e = (first_zero, second_zero)
  where
    first_zero : batch_refusal limit first 0 ≡ 0
    first_zero = go (eqb (batch_refusal limit first 0) 0) refl
      where
        go : (t : Bool) → eqb (batch_refusal limit first 0) 0 ≡ t → batch_refusal limit first 0 ≡ 0
        go true h = eqb-true (batch_refusal limit first 0) 0 h
        go false h = answer_first limit first second out (batch_refusal limit first 0) refl (eqb-false (batch_refusal limit first 0) 0 h) ∙ e

    second_zero : batch_refusal limit second 0 ≡ 0
    second_zero = go (eqb (batch_refusal limit second 0) 0) refl
      where
        go : (t : Bool) → eqb (batch_refusal limit second 0) 0 ≡ t → batch_refusal limit second 0 ≡ 0
        go true h = eqb-true (batch_refusal limit second 0) 0 h
        go false h =
            answer_second limit first second out (batch_refusal limit first 0) refl first_zero (batch_refusal limit second 0) refl (eqb-false (batch_refusal limit second 0) 0 h) ∙ e

-- ---- the output

-- three runs of bytes written one behind the other
three_over : (out x y z : List ℕ) (a b : ℕ) → length x ≡ a → length y ≡ b → a + b + length z ≤ length out
    → (o1 o2 o3 : List ℕ) → o1 ≡ spliced out 0 x → o2 ≡ spliced o1 a y → o3 ≡ spliced o2 (a + b) z → o3 ≡ over ((x ++ y) ++ z) out
unfolding over
three_over out x y z a b ex ey h o1 o2 o3 e1 e2 e3 =
    let n : ℕ = a + b + length z in
    let l1 : length o1 ≡ length out = ap length e1 ∙ length-spliced out 0 x (omega arith) in
    let l2 : length o2 ≡ length out = ap length e2 ∙ length-spliced o1 a y (omega arith) ∙ l1 in
    let t1 : take a o1 ≡ x = ap (take a) e1 ∙ take_through out 0 x a (omega arith) (omega arith) in
    let t2 : take (a + b) o2 ≡ x ++ y =
    ap (take (a + b)) e2 ∙ take_through o1 a y (a + b) (omega arith) (omega arith) ∙ ap (λ (q : List ℕ). q ++ y) t1 in
    let t3 : take n o3 ≡ (x ++ y) ++ z =
    ap (take n) e3 ∙ take_through o2 (a + b) z n (omega arith) refl ∙ ap (λ (q : List ℕ). q ++ z) t2 in
    let d1 : drop n o1 ≡ drop n out = ap (drop n) e1 ∙ drop-spliced out 0 x n (omega arith) (omega arith) in
    let d2 : drop n o2 ≡ drop n out = ap (drop n) e2 ∙ drop-spliced o1 a y n (omega arith) (omega arith) ∙ d1 in
    let d3 : drop n o3 ≡ drop n out = ap (drop n) e3 ∙ drop-spliced o2 (a + b) z n (omega arith) (omega arith) ∙ d2 in
    let lw : length ((x ++ y) ++ z) ≡ n = simp length-append (omega arith) in
    rw lw (sym (take-append-drop n o3) ∙ ap₂ (λ (p q : List ℕ). p ++ q) t3 d3)

module _ (limit : ℕ) (first second out : List ℕ) (passed : merge_refusal limit first second out ≡ 0) where
  facts : Mergeable limit first second
  facts = (merge_known limit first second out passed).0

  -- both batches and the output are long enough for what is copied
  pub first_long : detail_count first * 245 + 245 ≡ length first
  first_long = batch-length limit first facts.first_known

  pub second_long : detail_count second * 245 + 245 ≡ length second
  second_long = batch-length limit second facts.second_known

  pub out_long : merged_count first second * 245 ≤ length out
  out_long = omega (arith, (merge_known limit first second out passed).1, merged_length limit first second facts.first_known facts.second_known)

  -- what the copies leave
  pub merged_written : (c o1 o2 o3 : List ℕ) (m n : ℕ) → m ≡ detail_count first → n ≡ detail_count second → c ≡ merged_control first second
      → o1 ≡ spliced out (0 * 245) (take (m * 245) first) → o2 ≡ spliced o1 (m * 245) (take (n * 245) second) → o3 ≡ spliced o2 ((m + n) * 245) c
      → o3 ≡ over (merged_batch first second) out
  merged_written c o1 o2 o3 m n em en ec e1 e2 e3 =
      let wide : length c ≡ 245 = ap length ec ∙ control_wide limit first second facts.first_known facts.second_known in
      let x : List ℕ = take (m * 245) first in
      let y : List ℕ = take (n * 245) second in
      let parts : merged_batch first second ≡ (x ++ y) ++ c =
      rw (em, en, ec) (merged_parts limit first second facts.first_known facts.second_known) in
      let at : (m + n) * 245 ≡ m * 245 + n * 245 = omega arith in
      rw parts
      (three_over out x y c (m * 245) (n * 245) (length-take-le (m * 245) first (omega (arith, em, first_long)))
      (length-take-le (n * 245) second (omega (arith, en, second_long))) (omega (arith, em, en, wide, out_long)) o1 o2 o3 e1 e2
      (e3 ∙ ap (λ (z : ℕ). spliced o2 z c) at))

-- ---- the outcome

module _ (c : MergeCall) where
  pub merge_refused : (r : Refusal) → refusal_number_of r ≡ merge_refusal c.limit c.first c.second c.out → IsMerge c (merged_as (Err r) c.out)
  unfolding merge_outcome
  merge_refused r e = record { is = outcome_err _ c.out (merge_run c) r e }

  pub merge_done : 0 ≡ merge_refusal c.limit c.first c.second c.out → (records : ℕ) → records ≡ merged_count c.first c.second
      → (after : List ℕ) → after ≡ over (merged_batch c.first c.second) c.out → IsMerge c (merged_as (Ok records) after)
  unfolding merge_outcome
  merge_done z records er after ea = record { is = rw (er, ea) (outcome_done _ c.out (merge_run c) (sym z)) }

-- ---- a merge that was carried out

module _ (c : MergeCall) (o : MergeOutcome) (i : IsMerge c o) (t : is_carried_out o.answer ≡ true) where
  pub merge_passed : merge_refusal c.limit c.first c.second c.out ≡ 0
  unfolding merge_outcome
  merge_passed = none_holds _ c.out (merge_run c) (ap (λ (p : MergeOutcome). is_carried_out p.answer) (sym i.is) ∙ t)

  pub merge_facts : Mergeable c.limit c.first c.second
  merge_facts = (merge_known c.limit c.first c.second c.out merge_passed).0

  -- what stands at the front of the output
  pub merge_left_lem : take (records_written o.answer * 245) o.buffers ≡ merged_batch c.first c.second
  unfolding merge_outcome over
  merge_left_lem =
      let f : Mergeable c.limit c.first c.second = merge_facts in
      let m : List ℕ = merged_batch c.first c.second in
      ap (λ (q : MergeOutcome). take (records_written q.answer * 245) q.buffers) (i.is ∙ sym (outcome_done _ c.out (merge_run c) merge_passed))
      ∙ take_at m (drop (length m) c.out) (merged_count c.first c.second * 245)
      (merged_length c.limit c.first c.second f.first_known f.second_known)
