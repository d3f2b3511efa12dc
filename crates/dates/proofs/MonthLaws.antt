-- A month's length by arithmetic on its number, and why it is the calendar's: a test over the twelve numbers, with and without a
-- leap day. The arithmetic is the code's; no rule of the papers stands here. Assumes nothing.
use mathlib.Core.Logic.{inl, inr, ◌⊎◌}
use mathlib.Core.Path.{◌≡◌, refl}
use mathlib.Core.Bool.{Bool, true, false, cond, ◌&&◌}
use Prim.Native.Nat.{ℕ, zero, suc, ◌+◌, ◌-◌, ◌*◌, ◌/◌, ◌%◌, ◌≤◌, ◌<◌}
use native.Mathlib.Omega.{arith}
use lib.Dec.{eqb, leb, lit≤}
use borrow.Author.Count.{below_more}
use borrow.Author.Tests.{eqb-true, ne_eqb, leb-true}
use Rattle.dates.specs.Calendar.{is_leap, is_short, days_in}
use Rattle.text.proofs.FieldsLaws.{and_left, and_right}

-- 1 in February, 0 in the other months
abbrev pub february : ℕ → ℕ
february month = 2 / month % 2

abbrev length_by : Bool → ℕ → ℕ
length_by leap month = 30 + (month + month / 8) % 2 - 2 * february month + cond leap (february month) 0

unfoldable pub month_length : ℕ → ℕ → ℕ
month_length year month = length_by (is_leap year) month

-- the calendar's length, the leap day given
abbrev days_by : Bool → ℕ → ℕ
days_by leap month = cond (eqb month 2) (cond leap 29 28) (cond (is_short month) 30 31)

-- a test of the numbers 1 to n
abbrev each_up_to : (ℕ → Bool) → ℕ → Bool
each_up_to f zero = true
each_up_to f (suc n) = f (suc n) && each_up_to f n

each_up_to_lem : (f : ℕ → Bool) (n : ℕ) → each_up_to f n ≡ true → (k : ℕ) → k < n → f (suc k) ≡ true
each_up_to_lem f zero t k h = absurd (omega arith)
each_up_to_lem f (suc n) t k h =
    below_more _ _ (each_up_to_lem f n (and_right (f (suc n)) (each_up_to f n) t)) (and_left (f (suc n)) (each_up_to f n) t) k (omega arith)

abbrev agrees : Bool → ℕ → Bool
agrees leap month = eqb (length_by leap month) (days_by leap month)

twelve_agree : (leap : Bool) → each_up_to (agrees leap) 12 ≡ true
unfolding is_short
twelve_agree true = refl
twelve_agree false = refl

-- for each year, so for those of 1900–9999
pub month_length_lem : (year month : ℕ) → 1 ≤ month → month ≤ 12 → month_length year month ≡ days_in year month
unfolding month_length days_in
month_length_lem year zero l h = absurd (omega arith)
month_length_lem year (suc k) l h =
    let leap = is_leap year in
    eqb-true (length_by leap (suc k)) (days_by leap (suc k)) (each_up_to_lem (agrees leap) 12 (twelve_agree leap) k (omega arith))

-- the test of a month's number
abbrev pub is_month : ℕ → Bool
is_month month = leb 1 month && leb month 12

pub month_bounds : (month : ℕ) → is_month month ≡ true → (1 ≤ month) × (month ≤ 12)
month_bounds month t =
    (leb-true _ _ (and_left (leb 1 month) (leb month 12) t), leb-true _ _ (and_right (leb 1 month) (leb month 12) t))

-- a number that is no month's is none of those with fewer days
other : (month k : ℕ) → is_month month ≡ false → is_month k ≡ true → eqb month k ≡ false
other month k h t = ne_eqb month k (λ (e : month ≡ k). let z : ◌≡◌ {A = ℕ} 0 1 = cc in omega arith)

pub no_month : (year month : ℕ) → is_month month ≡ false → 31 ≡ days_in year month
unfolding days_in is_short
no_month year month h =
    rw (other month 2 h refl, other month 4 h refl, other month 6 h refl, other month 9 h refl, other month 11 h refl)

-- the leap day, where there is none and where there is one
pub length_common : (year month : ℕ) → (february month ≡ 0) ⊎ (is_leap year ≡ false) → 30 + (month + month / 8) % 2 - 2 * february month ≡ month_length year month
unfolding month_length
length_common year month (inl e) = go (is_leap year)
  where
    go : (leap : Bool) → 30 + (month + month / 8) % 2 - 2 * february month ≡ length_by leap month
    go true = omega arith
    go false = omega arith
length_common year month (inr e) = rw e (omega arith)

pub length_leap : (year month : ℕ) → (february month ≡ 0 → ⊥) → is_leap year ≡ true
    → 30 + (month + month / 8) % 2 - 2 * february month + 1 ≡ month_length year month
unfolding month_length
length_leap year month n e = rw e (omega arith)

-- each month has 28 days
pub least_days : (year month : ℕ) → 28 ≤ days_in year month
unfolding days_in
least_days year month = go (eqb month 2) (is_leap year) (is_short month)
  where
    go : (second leap short : Bool) → 28 ≤ cond second (cond leap 29 28) (cond short 30 31)
    go true true short = lit≤ tt
    go true false short = lit≤ tt
    go false leap true = lit≤ tt
    go false leap false = lit≤ tt
