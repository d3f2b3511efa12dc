-- Laws of the refusals 3 and 4: what stands behind them counts exactly where neither holds, what is then known of the rows, and a master of
-- one row. Assumes nothing.
use Prim.Native.Nat.{ℕ, ◌/◌, ◌%◌, ◌≤◌}
use mathlib.Core.Path.{◌≡◌, refl, sym, ◌∙◌, subst}
use mathlib.Core.List.{List}
use mathlib.Core.Bool.{Bool, true, false, not, cond, ◌&&◌, ◌||◌}
use native.Mathlib.Omega.{arith}
use native.Mathlib.Nat.{suc-ne-zero}
use borrow.Author.Tests.{not-false, ltb-false, le-ltb}
use lib.Dec.{eqb, ltb}
use lib.ListN.{length, take}
use lib.Seq.{take-length}
use Rattle.answers.specs.Answer.{refuse_if}
use Rattle.answers.specs.Refusal.{refusal_number_of}
use Rattle.answers.specs.declared.refusal.Refusal.{Refusal}
use Rattle.answers.proofs.RefusalLaws.{number_above_zero}
use Rattle.text.specs.Blocks.{blocks}
use Rattle.text.specs.ByteOrder.{below_first, rising}
use Rattle.layout.specs.Limits.{max_rows}
use Rattle.layout.proofs.LimitsLaws.{max_rows_lem}
use Rattle.casemaster.specs.Row.{is_sound_row}
use Rattle.casemaster.specs.Master.{rows_of, keys_of, are_sound_rows, are_sound_old_rows}
use Rattle.casemaster.specs.Refusals.{refusal3, refusal4, master_refusal, old_master_refusal}

module _ (limit : ℕ) (master : List ℕ) (rows : ℕ) where
  pub master_passed : master_refusal limit master rows 0 ≡ 0 → (behind : ℕ) → master_refusal limit master rows behind ≡ behind
  unfolding master_refusal
  master_passed e behind = go (refusal3 limit master rows) (refusal4 master rows) e
    where
      go : (a b : Bool) → refuse_if a 3 (refuse_if b 4 0) ≡ 0 → refuse_if a 3 (refuse_if b 4 behind) ≡ behind
      go true b e = absurd (omega arith)
      go false true e = absurd (omega arith)
      go false false e = refl

  pub master_refused : (master_refusal limit master rows 0 ≡ 0 → ⊥) → (behind : ℕ) → master_refusal limit master rows behind ≡ master_refusal limit master rows 0
  unfolding master_refusal
  master_refused h behind = go (refusal3 limit master rows) (refusal4 master rows) h
    where
      go : (a b : Bool) → (refuse_if a 3 (refuse_if b 4 0) ≡ 0 → ⊥) → refuse_if a 3 (refuse_if b 4 behind) ≡ refuse_if a 3 (refuse_if b 4 0)
      go true b h = refl
      go false true h = refl
      go false false h = absurd (h refl)

  -- an error that tells of a master, as the first refusal of a call that begins with it
  pub master_err : (r : Refusal) → refusal_number_of r ≡ master_refusal limit master rows 0 → (behind : ℕ)
      → refusal_number_of r ≡ master_refusal limit master rows behind
  master_err r e behind = e ∙ sym (master_refused (λ z. number_above_zero r (e ∙ z)) behind)

-- what is known of a master that neither refuses, whatever 4 is over
module _ (limit : ℕ) (master : List ℕ) (rows : ℕ) (four : Bool) (e : refuse_if (refusal3 limit master rows) 3 (refuse_if four 4 0) ≡ 0) where
  rows_inside : rows ≤ length master / 200
  unfolding refusal3
  rows_inside = go (not (eqb (length master % 200) 0)) (ltb (length master / 200) rows) refl (ltb limit rows) four e
    where
      go : (a b : Bool) → ltb (length master / 200) rows ≡ b → (c d : Bool) → refuse_if (a || b || c) 3 (refuse_if d 4 0) ≡ 0
          → rows ≤ length master / 200
      go a false t c d e = ltb-false (length master / 200) rows t
      go true true t c d e = absurd (omega arith)
      go false true t c d e = absurd (omega arith)

  not_four : four ≡ false
  not_four = go (refusal3 limit master rows) four e
    where
      go : (a b : Bool) → refuse_if a 3 (refuse_if b 4 0) ≡ 0 → b ≡ false
      go true b e = absurd (suc-ne-zero 2 e)
      go false true e = absurd (suc-ne-zero 3 e)
      go false false e = refl

module _ (limit : ℕ) (master : List ℕ) (rows : ℕ) where
  -- the rows lie inside the master, whatever the limit, and are sound
  pub master_rows : master_refusal limit master rows 0 ≡ 0 → rows ≤ length master / 200
  unfolding master_refusal
  master_rows e = rows_inside limit master rows (refusal4 master rows) e

  -- and are no more than the limit
  pub master_limit : master_refusal limit master rows 0 ≡ 0 → rows ≤ limit
  unfolding master_refusal refusal3
  master_limit e =
      go (not (eqb (length master % 200) 0) || ltb (length master / 200) rows) (ltb limit rows) refl (refusal4 master rows) e
    where
      go : (a b : Bool) → ltb limit rows ≡ b → (c : Bool) → refuse_if (a || b) 3 (refuse_if c 4 0) ≡ 0 → rows ≤ limit
      go a false t c e = ltb-false limit rows t
      go true true t c e = absurd (omega arith)
      go false true t c e = absurd (omega arith)

  pub master_sound : master_refusal limit master rows 0 ≡ 0 → are_sound_rows (rows_of rows master) ≡ true
  unfolding master_refusal refusal4
  master_sound e = not-false (are_sound_rows (rows_of rows master)) (not_four limit master rows (not (are_sound_rows (rows_of rows master))) e)

  -- and so are those without cents
  pub old_master_rows : old_master_refusal limit master rows ≡ 0 → rows ≤ length master / 200
  unfolding old_master_refusal
  old_master_rows e = rows_inside limit master rows (not (are_sound_old_rows (rows_of rows master))) e

  pub old_master_sound : old_master_refusal limit master rows ≡ 0 → are_sound_old_rows (rows_of rows master) ≡ true
  unfolding old_master_refusal
  old_master_sound e = not-false (are_sound_old_rows (rows_of rows master)) (not_four limit master rows (not (are_sound_old_rows (rows_of rows master))) e)

-- a master of one row, sound or not
pub one_row : (row : List ℕ) → length row ≡ 200 → master_refusal max_rows row 1 0 ≡ cond (is_sound_row row) 0 4
unfolding master_refusal refusal3 refusal4 are_sound_rows keys_of rising below_first blocks
one_row row l =
    let n : take 200 row ≡ row = subst (λ (x : ℕ). take x row ≡ row) l (take-length row) in
    let f : ltb max_rows 1 ≡ false = le-ltb max_rows 1 (omega (arith, max_rows_lem)) in
    rw (l, f, n) (go (is_sound_row row))
  where
    go : (t : Bool) → ◌≡◌ {A = ℕ} (cond (not ((t && true) && (true && true))) 4 0) (cond t 0 4)
    go true = refl
    go false = refl
