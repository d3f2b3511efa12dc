-- Two fields of as many digits stand in byte order as their numbers do, over any width. Assumes nothing.
use mathlib.Core.Path.{◌≡◌, refl, sym, ◌∙◌}
use mathlib.Core.Bool.{Bool, true, false}
use mathlib.Core.List.{List, [], ◌∷◌, ◌++◌}
use Prim.Native.Nat.{ℕ, ◌+◌, ◌-◌, ◌*◌, ◌≤◌, ◌<◌}
use native.Mathlib.Omega.{arith}
use lib.Dec.{ltb}
use lib.ListN.{length}
use borrow.Author.Tests.{ltb-true, ltb-false}
use Rattle.text.specs.Characters.{is_digit}
use Rattle.text.specs.Fields.{every, all_digits, number_onto}
use Rattle.text.proofs.FieldsLaws.{and_left, and_right}
use Rattle.text.proofs.NumberLaws.{digit_bounds}
use Rattle.text.specs.ByteOrder.{less, order_of}
use Rattle.text.proofs.ByteOrderLaws.{order_lt, order_eq}

abbrev Digits : List ℕ → Type 0
Digits s = every is_digit s ≡ true

digit : (b : ℕ) (s : List ℕ) → Digits (b ∷ s) → (0xF0 ≤ b) × (b ≤ 0xF9)
digit b s t = digit_bounds b (and_left (is_digit b) (every is_digit s) t)

digits : (b : ℕ) (s : List ℕ) → Digits (b ∷ s) → Digits s
digits b s t = and_right (is_digit b) (every is_digit s) t

-- digits onto a lesser number write a lesser number
digits_less : (n m : ℕ) (s t : List ℕ) → length s ≡ length t → Digits s → Digits t → n < m → number_onto n s < number_onto m t
digits_less n m [] [] e f g h = h
digits_less n m [] (y ∷ t) e f g h = absurd (omega arith)
digits_less n m (x ∷ s) [] e f g h = absurd (omega arith)
digits_less n m (x ∷ s) (y ∷ t) e f g h =
    let dx = digit x s f in
    let dy = digit y t g in
    digits_less (n * 10 + (x - 0xF0)) (m * 10 + (y - 0xF0)) s t (omega arith) (digits x s f) (digits y t g) (omega arith)

-- how two fields of digits stand, by their numbers and by their bytes, whatever follows them
pub data Stand (n : ℕ) (s t : List ℕ) : Type 0 where
  below : number_onto n s < number_onto n t → ((u v : List ℕ) → order_of (s ++ u) (t ++ v) ≡ less) → Stand n s t
  level : s ≡ t → Stand n s t
  above : number_onto n t < number_onto n s → Stand n s t

onto_stand : (n : ℕ) (s t : List ℕ) → length s ≡ length t → Digits s → Digits t → Stand n s t
onto_stand n [] [] e f g = level refl
onto_stand n [] (y ∷ t) e f g = absurd (omega arith)
onto_stand n (x ∷ s) [] e f g = absurd (omega arith)
onto_stand n (x ∷ s) (y ∷ t) e f g =
    go (ltb x y) (ltb y x) refl refl (digit x s f) (digit y t g) (omega arith)
    (onto_stand (n * 10 + (x - 0xF0)) s t (omega arith) (digits x s f) (digits y t g))
  where
    same : x ≡ y → Stand (n * 10 + (x - 0xF0)) s t → Stand n (x ∷ s) (y ∷ t)
    same p (below h o) = below (rw (← p) h) (λ u v. order_eq x y (s ++ u) (t ++ v) p ∙ o u v)
    same p (level q) = level (cc)
    same p (above h) = above (rw (← p) h)

    go : (a b : Bool) → ltb x y ≡ a → ltb y x ≡ b → (0xF0 ≤ x) × (x ≤ 0xF9) → (0xF0 ≤ y) × (y ≤ 0xF9) → length s ≡ length t
        → Stand (n * 10 + (x - 0xF0)) s t → Stand n (x ∷ s) (y ∷ t)
    go true b p q dx dy le r =
        let h = ltb-true x y p in
        below (digits_less (n * 10 + (x - 0xF0)) (n * 10 + (y - 0xF0)) s t le (digits x s f) (digits y t g) (omega arith)) (λ u v. order_lt x y (s ++ u) (t ++ v) h)
    go false true p q dx dy le r =
        let h = ltb-true y x q in
        above (digits_less (n * 10 + (y - 0xF0)) (n * 10 + (x - 0xF0)) t s (sym le) (digits y t g) (digits x s f) (omega arith))
    go false false p q dx dy le r = same (omega (arith, ltb-false x y p, ltb-false y x q)) r

pub digits_stand : (s t : List ℕ) → length s ≡ length t → all_digits s ≡ true → all_digits t ≡ true → Stand 0 s t
unfolding all_digits
digits_stand s t e f g = onto_stand 0 s t e f g
