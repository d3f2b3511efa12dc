-- Laws of the control record that states some totals: its fields written, its columns, and the totals read again. Assumes nothing.
use Prim.Native.Nat.{ℕ, ◌+◌, ◌-◌, ◌^◌, ◌≤◌, ◌<◌}
use mathlib.Core.Path.{◌≡◌, refl, ap, ◌∙◌}
use mathlib.Core.Bool.{true}
use mathlib.Core.List.{List, [], ◌∷◌, ◌++◌, map}
use native.Mathlib.Omega.{arith}
use native.Mathlib.Nat.{pow-le-pow_right}
use lib.Dec.{lit≤, lit<}
use lib.ListN.{length}
use Rattle.text.specs.Characters.{is_digit}
use Rattle.text.specs.Fields.{columns, every, is_blank, all_digits, digit_field, spaces, placed}
use Rattle.text.proofs.BoolLaws.{and_both}
use Rattle.text.proofs.SameLaws.{eq_same}
use Rattle.text.proofs.ColumnsLaws.{columns_split}
use Rattle.text.proofs.ColumnsWritten.{Written, written_none, written-field, written_digits, written_kept}
use Rattle.text.proofs.NumberLaws.{length_digits, digits_digits, number_digits}
use Rattle.text.proofs.PartsLaws.{columns-appended}
use Rattle.layout.specs.ChartA2.{control_state, control, total_tanf, total_non_tanf, amount_tanf, amount_non_tanf, control_filler}
use Rattle.layout.proofs.LocalsLaws.{every_append}
use Rattle.layout.specs.States.{is_state}
use Rattle.batchfile.specs.Totals.{CTL, has_ctl, has_state, has_totals}
use Rattle.batchfile.specs.Stated.{Stated, stated_by, totals_record}

digits_append : (xs ys : List ℕ) → all_digits xs ≡ true → all_digits ys ≡ true → all_digits (xs ++ ys) ≡ true
unfolding all_digits
digits_append xs ys a b = every_append is_digit xs ys ∙ and_both (every is_digit xs) (every is_digit ys) a b

-- two numbers of at most 18 digits can be summed in 64 bits
pub sum_fits : (m n first last : ℕ) → last < first + 18 → m < 10 ^ (last + 1 - first) → n < 10 ^ (last + 1 - first) → m + n < 2 ^ 64
sum_fits m n first last l a b =
    let o : last + 1 - first ≤ 18 = omega arith in
    let p : 10 ^ (last + 1 - first) ≤ 10 ^ 18 = pow-le-pow_right (lit< tt) o in
    omega arith

blank-spaces : is_blank (spaces 200) ≡ true
unfolding is_blank
blank-spaces = refl

module _ (state : List ℕ) (t : Stated) (two : length state ≡ 2) where
  -- its fields placed one after the other in a blank record
  pub control-written : (a b c d e f : List ℕ)
      → a ≡ placed 1 2 state (spaces 245)
      → b ≡ placed 3 5 CTL a
      → c ≡ placed 6 14 (digit_field 9 t.tanf_count) b
      → d ≡ placed 15 23 (digit_field 9 t.non_tanf_count) c
      → e ≡ placed 24 34 (digit_field 11 t.tanf_amount) d
      → f ≡ placed 35 45 (digit_field 11 t.non_tanf_amount) e
      → Written 245 (totals_record state t) (spaces 245) f
  unfolding totals_record
  control-written a b c d e f ea eb ec ed ee ef =
      let z : 2 ≡ 0 + length state = omega arith in
      let w1 = written-field (written_none (spaces 245)) 1 2 state ea refl z (lit≤ tt) in
      let w2 = written-field w1 3 5 CTL eb refl refl (lit≤ tt) in
      let w3 = written_digits w2 6 14 9 t.tanf_count ec refl refl (lit≤ tt) in
      let w4 = written_digits w3 15 23 9 t.non_tanf_count ed refl refl (lit≤ tt) in
      let w5 = written_digits w4 24 34 11 t.tanf_amount ee refl refl (lit≤ tt) in
      let w6 = written_digits w5 35 45 11 t.non_tanf_amount ef refl refl (lit≤ tt) in
      written_kept w6 46 245 refl (lit≤ tt) (lit≤ tt)

  pub length-control : length (totals_record state t) ≡ 245
  length-control = (control-written _ _ _ _ _ _ refl refl refl refl refl refl).wide

  -- ---- its columns

  pub record IsTotalsRecord (rec : List ℕ) : Type 0 where
    pub state_is : control_state rec ≡ state
    pub control_is : control rec ≡ CTL
    pub tanf_count : total_tanf rec ≡ digit_field 9 t.tanf_count
    pub non_tanf_count : total_non_tanf rec ≡ digit_field 9 t.non_tanf_count
    pub tanf-amount : amount_tanf rec ≡ digit_field 11 t.tanf_amount
    pub non_tanf-amount : amount_non_tanf rec ≡ digit_field 11 t.non_tanf_amount
    pub filler_is : control_filler rec ≡ spaces 200

  pub control-columns : IsTotalsRecord (totals_record state t)
  unfolding totals_record
  control-columns =
      let others : List (List ℕ) =
      CTL ∷ digit_field 9 t.tanf_count ∷ digit_field 9 t.non_tanf_count ∷ digit_field 11 t.tanf_amount
      ∷ digit_field 11 t.non_tanf_amount ∷ spaces 200 ∷ [] in
      let widths : map length (state ∷ others) ≡ 2 ∷ 3 ∷ 9 ∷ 9 ∷ 11 ∷ 11 ∷ 200 ∷ [] =
      rw (
        two,
        length_digits 9 t.tanf_count,
        length_digits 9 t.non_tanf_count,
        length_digits 11 t.tanf_amount,
        length_digits 11 t.non_tanf_amount,
      )
      refl in
      let at = columns-appended (2 ∷ 3 ∷ 9 ∷ 9 ∷ 11 ∷ 11 ∷ 200 ∷ []) state others widths in
      record {
        state_is = at 0;
        control_is = at 1;
        tanf_count = at 2;
        non_tanf_count = at 3;
        tanf-amount = at 4;
        non_tanf-amount = at 5;
        filler_is = at 6;
      }

  -- ---- it passes 6, 20 and 21

  pub has_ctl_lem : has_ctl (totals_record state t) ≡ true
  unfolding has_ctl
  has_ctl_lem = rw control-columns.control_is (eq_same CTL CTL refl)

  pub has_state_lem : is_state state ≡ true → has_state (totals_record state t) ≡ true
  unfolding has_state
  has_state_lem h = rw control-columns.state_is h

  pub has_totals_lem : has_totals (totals_record state t) ≡ true
  unfolding has_totals
  has_totals_lem =
      let rec : List ℕ = totals_record state t in
      let s1 = columns_split 6 14 45 rec (lit≤ tt) (lit≤ tt) (lit≤ tt) in
      let s2 = columns_split 15 23 45 rec (lit≤ tt) (lit≤ tt) (lit≤ tt) in
      let s3 = columns_split 24 34 45 rec (lit≤ tt) (lit≤ tt) (lit≤ tt) in
      let d1 : all_digits (columns 6 14 rec) ≡ true = rw control-columns.tanf_count (digits_digits 9 t.tanf_count) in
      let d2 : all_digits (columns 15 23 rec) ≡ true = rw control-columns.non_tanf_count (digits_digits 9 t.non_tanf_count) in
      let d3 : all_digits (columns 24 34 rec) ≡ true = rw control-columns.tanf-amount (digits_digits 11 t.tanf_amount) in
      let d4 : all_digits (columns 35 45 rec) ≡ true = rw control-columns.non_tanf-amount (digits_digits 11 t.non_tanf_amount) in
      let digits : all_digits (columns 6 45 rec) ≡ true =
      ap all_digits s1
      ∙ digits_append (columns 6 14 rec) (columns 15 45 rec) d1
      (ap all_digits s2
      ∙ digits_append (columns 15 23 rec) (columns 24 45 rec) d2
      (ap all_digits s3 ∙ digits_append (columns 24 34 rec) (columns 35 45 rec) d3 d4)) in
      and_both (all_digits (columns 6 45 rec)) (is_blank (control_filler rec)) digits (ap is_blank control-columns.filler_is ∙ blank-spaces)

  -- ---- what it states

  pub stated_back : t.tanf_count < 10 ^ 9 → t.non_tanf_count < 10 ^ 9 → t.tanf_amount < 10 ^ 11 → t.non_tanf_amount < 10 ^ 11
      → stated_by (totals_record state t) ≡ t
  stated_back a b c d =
      rw (
        control-columns.tanf_count,
        control-columns.non_tanf_count,
        control-columns.tanf-amount,
        control-columns.non_tanf-amount,
        number_digits 9 t.tanf_count a,
        number_digits 9 t.non_tanf_count b,
        number_digits 11 t.tanf_amount c,
        number_digits 11 t.non_tanf_amount d,
      )
