-- What a run's numbers are before and after their names are marked: the mark alone changes, and says which names are given. Assumes nothing.
use Prim.Native.Nat.{ℕ, zero, suc, ◌+◌, ◌*◌, ◌/◌, ◌%◌, ◌^◌, ◌<◌}
use mathlib.Core.Path.{◌≡◌, refl, sym, ap, ◌∙◌}
use mathlib.Core.Bool.{Bool, true, false, cond}
use native.Mathlib.Omega.{arith}
use lib.Dec.{eqb}
use borrow.Author.Tests.{eqb-false}
use Rattle.keyorder.specs.Tagged.{rank_part, index_part, flag_local, flag_wrong, flag_given}
use Rattle.namemarks.specs.Marks.{rest_part}

-- an unmarked number is even
pub even : (n : ℕ) → flag_given n ≡ false → n % 2 ≡ 0
even n e = let x = eqb-false (n % 2) 1 e in go (n % 2) (omega arith) x
  where
    go : (m : ℕ) → m < 2 → (m ≡ 1 → ⊥) → m ≡ 0
    go zero l x = refl
    go (suc zero) l x = absurd (x refl)
    go (suc (suc m)) l x = absurd (omega arith)

-- one more than an even number has the same parts above
half_1 : (m : ℕ) → (m * 2 + 1) / 2 ≡ m
half_1 m = omega arith

eighth_1 : (m : ℕ) → (m * 2 + 1) / 2 ^ 8 ≡ m / 2 ^ 7
eighth_1 m = omega arith

eighth_0 : (m : ℕ) → m * 2 / 2 ^ 8 ≡ m / 2 ^ 7
eighth_0 m = omega arith

second_1 : (m : ℕ) → (m * 2 + 1) / 2 ^ 2 ≡ m / 2
second_1 m = omega arith

second_0 : (m : ℕ) → m * 2 / 2 ^ 2 ≡ m / 2
second_0 m = omega arith

-- the mark beside an unmarked number
module _ (n : ℕ) (z : n % 2 ≡ 0) where
  twice : n ≡ n / 2 * 2
  twice = omega arith

  one_index : index_part (n + 1) ≡ index_part n
  one_index =
      ap (λ (k : ℕ). index_part (k + 1)) twice ∙ ap (λ (k : ℕ). k % 2 ^ 24) (eighth_1 (n / 2) ∙ sym (eighth_0 (n / 2))) ∙ sym (ap index_part twice)

  one_local : (n + 1) / 2 ^ 2 % 2 ≡ n / 2 ^ 2 % 2
  one_local =
      ap (λ (k : ℕ). (k + 1) / 2 ^ 2 % 2) twice ∙ ap (λ (k : ℕ). k % 2) (second_1 (n / 2) ∙ sym (second_0 (n / 2))) ∙ sym (ap (λ (k : ℕ). k / 2 ^ 2 % 2) twice)

  one_wrong : (n + 1) / 2 % 2 ≡ n / 2 % 2
  one_wrong = ap (λ (k : ℕ). (k + 1) / 2 % 2) twice ∙ ap (λ (k : ℕ). k % 2) (half_1 (n / 2))

  one_mark : (n + 1) % 2 ≡ 1
  one_mark = omega arith

  none : n + 0 ≡ n
  none = omega arith

  pub mark_index : (b : Bool) → index_part (n + cond b 1 0) ≡ index_part n
  mark_index true = one_index
  mark_index false = ap index_part none

  pub mark_local : (b : Bool) → flag_local (n + cond b 1 0) ≡ flag_local n
  mark_local true = ap (λ (x : ℕ). eqb x 1) one_local
  mark_local false = ap flag_local none

  pub mark_wrong : (b : Bool) → flag_wrong (n + cond b 1 0) ≡ flag_wrong n
  mark_wrong true = ap (λ (x : ℕ). eqb x 1) one_wrong
  mark_wrong false = ap flag_wrong none

  pub mark_given : (b : Bool) → flag_given (n + cond b 1 0) ≡ b
  mark_given true = ap (λ (x : ℕ). eqb x 1) one_mark
  mark_given false = ap flag_given none ∙ ap (λ (x : ℕ). eqb x 1) z

-- an unmarked number is its rank above its rest
pub rank_rest : (n : ℕ) → n % 2 ≡ 0 → n ≡ rank_part n * 2 ^ 32 + rest_part n * 2
rank_rest n z = omega arith
