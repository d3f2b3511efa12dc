-- Laws of an amount field read, and of a line's amounts. Assumes nothing.
use Prim.Native.Nat.{ℕ, ◌+◌, ◌*◌, ◌%◌}
use mathlib.Core.Path.{◌≡◌, refl, ap, ◌∙◌}
use mathlib.Core.Logic.{◌⊎◌, inl, inr}
use mathlib.Core.List.{List}
use mathlib.Core.Bool.{Bool, true, false, not, ◌&&◌}
use mathlib.Core.Option.{none, some}
use native.Mathlib.Omega.{arith}
use borrow.Author.Tests.{eq-eqb, ltb-false}
use lib.Dec.{ltb, lit≤}
use lib.ListN.{length, get_or}
use Rattle.text.specs.Fields.{columns, all_digits, number}
use Rattle.text.proofs.FieldsLaws.{and_right, length-columns}
use Rattle.text.specs.Options.{is_none, or_zero}
use Rattle.collectionfile.specs.Line.{is_last_digit, is_amount, amount, amount_cents, collection_in, adjustment_in, collected, adjusted, is_right}
use Rattle.collectionfile.specs.Parts.{cents_in, AreAmounts}
use Rattle.collectionfile.specs.declared.cents.Cents.{Cents}
use Rattle.std.specs.Prelude.{Option as Read, Some, None, is_some, unwrap_or}
use Rattle.collectionfile.specs.declared.line.Amounts.{Amounts}

-- ---- an amount field

module _ (f : List ℕ) (l : length f ≡ 11) where
  pub no_digits : all_digits (columns 1 10 f) ≡ false → none ≡ amount_cents f
  unfolding amount_cents is_amount
  no_digits h = rw (eq-eqb (length f) 11 l, h)

  pub no_last : all_digits (columns 1 10 f) ≡ true → is_last_digit (get_or f 10 0) ≡ false → none ≡ amount_cents f
  unfolding amount_cents is_amount
  no_last h k = rw (eq-eqb (length f) 11 l, h, k)

  pub good : (n : ℕ) → all_digits (columns 1 10 f) ≡ true → is_last_digit (get_or f 10 0) ≡ true → n ≡ number (columns 1 10 f)
      → some (n * 10 + get_or f 10 0 % 16) ≡ amount_cents f
  unfolding amount_cents is_amount amount
  good n h k e = rw (eq-eqb (length f) 11 l, h, k, e)

  pub front_width : length (columns 1 10 f) ≡ 10
  front_width = length-columns 1 10 f (record { low = lit≤ tt; ordered = lit≤ tt; high = omega arith })

-- ---- the amounts of a line

-- an amount that was read
was_read : (p : Read Cents) → is_some p ≡ not (is_none (cents_in p))
was_read None = refl
was_read (Some cents) = refl

as_read : (p : Read Cents) (zero : Cents) → zero.0 ≡ 0 → (unwrap_or p zero).0 ≡ or_zero (cents_in p)
as_read None zero z = z
as_read (Some cents) zero z = refl

pub amounts_are : (line : List ℕ) (a : Amounts) (p q : Read Cents) (zero : Cents) → zero.0 ≡ 0 → cents_in p ≡ collection_in line
    → cents_in q ≡ adjustment_in line → a.collection ≡ unwrap_or p zero → a.adjustment ≡ unwrap_or q zero
    → a.right ≡ (is_some p && (is_some q && not (ltb 0 a.collection.0 && ltb 0 a.adjustment.0))) → AreAmounts line a
unfolding collected adjusted is_right
amounts_are line a p q zero z ep eq x y r =
    let ex : a.collection.0 ≡ or_zero (cents_in p) = ap (λ (v : Cents). v.0) x ∙ as_read p zero z in
    let ey : a.adjustment.0 ≡ or_zero (cents_in q) = ap (λ (v : Cents). v.0) y ∙ as_read q zero z in
    record {
      right_is = r ∙ rw (was_read p, was_read q, ex, ey, ep, eq);
      collection_is = ex ∙ ap or_zero ep;
      adjustment_is = ey ∙ ap or_zero eq;
    }

-- of a right line's amounts one is zero
pub one_zero : (line : List ℕ) → is_right line ≡ true → (collected line ≡ 0) ⊎ (adjusted line ≡ 0)
unfolding is_right
one_zero line t =
    let b = and_right (not (is_none (collection_in line))) _ t in
    let n = and_right (not (is_none (adjustment_in line))) (not (ltb 0 (collected line) && ltb 0 (adjusted line))) b in
    go (ltb 0 (collected line)) refl (ltb 0 (adjusted line)) refl n
  where
    go : (p : Bool) → ltb 0 (collected line) ≡ p → (q : Bool) → ltb 0 (adjusted line) ≡ q → not (p && q) ≡ true
        → (collected line ≡ 0) ⊎ (adjusted line ≡ 0)
    go true e true f h = let z : ◌≡◌ {A = ℕ} 0 1 = cc in absurd (omega arith)
    go true e false f h = inr (omega (arith, ltb-false 0 (adjusted line) f))
    go false e q f h = inl (omega (arith, ltb-false 0 (collected line) e))
