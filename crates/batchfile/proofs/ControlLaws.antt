-- Laws of the control record: its totals are digits, and its counts, where they are right, those of the details. Assumes nothing.
use mathlib.Core.Path.{◌≡◌, ap, ◌∙◌}
use mathlib.Core.Bool.{true}
use mathlib.Core.List.{List}
use Prim.Native.Nat.{ℕ, ◌+◌, ◌-◌, ◌≤◌}
use native.Mathlib.Omega.{arith}
use lib.Dec.{eqb}
use borrow.Author.Tests.{eqb-true}
use Rattle.text.specs.Characters.{A, N}
use Rattle.text.specs.Fields.{columns, number, is_blank, all_digits}
use Rattle.layout.specs.ChartA2.{total_tanf, total_non_tanf, control_filler}
use Rattle.text.proofs.FieldsLaws.{and_left, and_right, digits_part}
use Rattle.text.proofs.ColumnsLaws.{columns_of-columns}
use Rattle.batchfile.specs.Totals.{has_totals, count_of, are_counts_right}

-- columns among columns that are digits
pub digits_among : (first last a z : ℕ) (s : List ℕ) → 1 ≤ first → first ≤ a → a ≤ z + 1 → z ≤ last
    → all_digits (columns first last s) ≡ true → all_digits (columns a z s) ≡ true
digits_among first last a z s f l o h t =
    let ea : first + (a + 1 - first) - 1 ≡ a = omega arith in
    let ez : first + (z + 1 - first) - 1 ≡ z = omega arith in
    let c = columns_of-columns first last (a + 1 - first) (z + 1 - first) s f (omega arith) (omega arith) (omega arith) in
    rw (rw (ea, ez) at c) at (digits_part (a + 1 - first) (z + 1 - first) (columns first last s) t)

-- the columns of its totals are digits
pub control_digits : (a z : ℕ) (rec : List ℕ) → has_totals rec ≡ true → 6 ≤ a → a ≤ z + 1 → z ≤ 45 → all_digits (columns a z rec) ≡ true
unfolding has_totals
control_digits a z rec t l o h =
    digits_among 6 45 a z rec (omega arith) l o h (and_left (all_digits (columns 6 45 rec)) (is_blank (control_filler rec)) t)

-- the counts that a right one states are those of the details
pub stated_counts : (rec control : List ℕ) (details : List (List ℕ)) (tanf non_tanf : ℕ) → are_counts_right rec details ≡ true → control ≡ rec
    → tanf ≡ number (columns 6 14 control) → non_tanf ≡ number (columns 15 23 control)
    → (tanf ≡ count_of A details) × (non_tanf ≡ count_of N details)
unfolding are_counts_right
stated_counts rec control details tanf non_tanf h e t n =
    let a = eqb (number (total_tanf rec)) (count_of A details) in
    let b = eqb (number (total_non_tanf rec)) (count_of N details) in (
      t ∙ ap (λ (z : List ℕ). number (columns 6 14 z)) e ∙ eqb-true (number (total_tanf rec)) (count_of A details) (and_left a b h),
      n ∙ ap (λ (z : List ℕ). number (columns 15 23 z)) e ∙ eqb-true (number (total_non_tanf rec)) (count_of N details) (and_right a b h),
    )
