-- Laws of the conversion: the loop over the rows, the outcome, and that a sound row without cents becomes a sound one with them.
-- Assumes nothing.
use Prim.Native.Nat.{ℕ, ◌+◌, ◌*◌, ◌≤◌}
use mathlib.Core.Path.{◌≡◌, refl, sym, ap, ◌∙◌}
use mathlib.Core.List.{List, [], ◌∷◌, map}
use mathlib.Core.Bool.{true, ◌&&◌, and-true}
use native.Mathlib.Omega.{arith}
use lib.Dec.{eqb, lit≤}
use lib.ListN.{length, take, drop}
use Rattle.answers.specs.Refusal.{refusal_number_of}
use Rattle.answers.specs.declared.refusal.Refusal.{Refusal}
use Rattle.answers.proofs.AnswerLaws.{outcome_done}
use Rattle.answers.proofs.RefusalLaws.{outcome_err}
use Rattle.std.specs.Prelude.{Ok, Err}
use Rattle.text.specs.Characters.{space, zero_digit, is_digit}
use Rattle.text.specs.Fields.{columns, is_blank, is_zero, all_digits, number}
use Rattle.text.specs.Blocks.{blocks, joined, over}
use Rattle.text.proofs.BlocksLaws.{map_snoc, holds_over, blocks_snoc, kept_further}
use Rattle.text.proofs.FieldsLaws.{and_left, and_right, every-columns}
use Rattle.text.proofs.ColumnsLaws.{Put, put, length-written, columns-written, is_free, columns_free, AllFit, columns_of-columns}
use Rattle.layout.specs.Key.{is_sound_key}
use Rattle.casemaster.specs.Row.{row_key, row_arrearage, balance, is_balance_zero, is_live, is_deleted, is_deleted_exactly, are_fields_sound, is_end_sound, is_sound_row, is_old_end_sound, is_sound_old_row}
use Rattle.casemaster.specs.Master.{rows_of}
use Rattle.casemaster.specs.Refusals.{old_master_refusal}
use Rattle.casemaster.specs.Search.{RowPut}
use Rattle.casemaster.proofs.RefusalsLaws.{old_master_rows}
use Rattle.casemaster.specs.Row.{with_zero_cents}
use Rattle.addcents.specs.Convert.{ConvertCall, added_as, convert_run, convert_outcome, AreCentsAdded}
use Rattle.addcents.specs.Zeroed.{Zeroed}

-- ---- the rows, one after the other

pub zeroed_none : (m : List ℕ) → Zeroed m 0 m
unfolding blocks
zeroed_none m = record { rows_are = refl; rest_kept = refl; same_length = refl }

pub zeroed_next : (m₀ m after : List ℕ) (i : ℕ) → i * 200 + 200 ≤ length m₀ → Zeroed m₀ i m
    → RowPut m i (with_zero_cents (take 200 (drop (i * 200) m))) after → Zeroed m₀ (i + 1) after
zeroed_next m₀ m after i h z r =
    record {
      rows_are =
          r.rows_are
          ∙ rw (z.rows_are, z.rest_kept)
          (sym (ap (map with_zero_cents) (blocks_snoc 200 i m₀ h) ∙ map_snoc with_zero_cents (rows_of i m₀) (take 200 (drop (i * 200) m₀))));
      rest_kept = r.rest_kept ∙ kept_further m m₀ (i * 200) ((i + 1) * 200) (omega arith) z.rest_kept;
      same_length = r.same_length ∙ z.same_length;
    }

-- ---- the outcome

module _ (limit : ℕ) (master : List ℕ) (rows : ℕ) where
  abbrev call : ConvertCall
  call = record { master = master; rows = rows; limit = limit }

  pub convert_refused : (r : Refusal) → refusal_number_of r ≡ old_master_refusal limit master rows → AreCentsAdded call (added_as (Err r) master)
  unfolding convert_outcome
  convert_refused r e = record { is = outcome_err _ master (convert_run call) r e }

  pub rows_inside : old_master_refusal limit master rows ≡ 0 → rows * 200 ≤ length master
  rows_inside e = omega (arith, old_master_rows limit master rows e)

  pub convert_done : (after : List ℕ) → old_master_refusal limit master rows ≡ 0 → Zeroed master rows after
      → AreCentsAdded call (added_as (Ok tt) after)
  unfolding convert_outcome
  convert_done after e z =
      let m : after ≡ over (joined (map with_zero_cents (rows_of rows master))) master =
      holds_over 200 master after rows (map with_zero_cents (rows_of rows master)) (record { blocks_are = z.rows_are; rest_kept = z.rest_kept })
      (omega (arith, z.same_length, rows_inside e)) in
      record { is = rw m (outcome_done _ master (convert_run call) e) }

-- ---- a row converted

abbrev zeros_put : List Put
zeros_put = put 197 198 (zero_digit ∷ zero_digit ∷ []) ∷ []

zeros_fit : AllFit 200 zeros_put
zeros_fit = (record { low = lit≤ tt; wide = refl; high = lit≤ tt }, tt)

zeros_digits : all_digits (zero_digit ∷ zero_digit ∷ []) ≡ true
unfolding all_digits is_digit
zeros_digits = refl

zeros-zero : is_zero (zero_digit ∷ zero_digit ∷ []) ≡ true
unfolding is_zero
zeros-zero = refl

module _ (row : List ℕ) (l : length row ≡ 200) where
  kept : (a z : ℕ) → 1 ≤ a → a ≤ z + 1 → is_free a z zeros_put ≡ true → columns a z (with_zero_cents row) ≡ columns a z row
  kept a z h o t = columns_free 200 a z h o zeros_put row t zeros_fit l

  zero_there : columns 197 198 (with_zero_cents row) ≡ zero_digit ∷ zero_digit ∷ []
  zero_there = columns-written 200 197 198 (lit≤ tt) (lit≤ tt) zeros_put row refl zeros_fit l

  pub wide : length (with_zero_cents row) ≡ 200
  wide = length-written 200 zeros_put row zeros_fit l

  pub key_kept : columns 1 12 (with_zero_cents row) ≡ columns 1 12 row
  key_kept = kept 1 12 (lit≤ tt) (lit≤ tt) refl

  pub dollars_kept : columns 66 73 (with_zero_cents row) ≡ columns 66 73 row
  dollars_kept = kept 66 73 (lit≤ tt) (lit≤ tt) refl

  pub status_kept : columns 196 196 (with_zero_cents row) ≡ columns 196 196 row
  status_kept = kept 196 196 (lit≤ tt) (lit≤ tt) refl

  -- its balance is its dollars
  pub balance_dollars : balance (with_zero_cents row) ≡ number (columns 66 73 row) * 100
  unfolding balance number
  balance_dollars = rw (kept 66 73 (lit≤ tt) (lit≤ tt) refl, zero_there) (omega arith)

  rest_blank : is_blank (columns 197 200 row) ≡ true → is_blank (columns 199 200 row) ≡ true
  unfolding is_blank
  rest_blank t =
      rw (columns_of-columns 197 200 3 4 row (lit≤ tt) (lit≤ tt) (lit≤ tt) (lit≤ tt)) at (every-columns (λ b. eqb b space) 3 4 (columns 197 200 row) t)

  -- and a sound row without cents becomes a sound one with them
  fields_kept : are_fields_sound (with_zero_cents row) ≡ are_fields_sound row
  unfolding are_fields_sound
  fields_kept =
      rw (
        kept 13 15 (lit≤ tt) (lit≤ tt) refl,
        kept 66 73 (lit≤ tt) (lit≤ tt) refl,
        kept 79 90 (lit≤ tt) (lit≤ tt) refl,
        kept 31 34 (lit≤ tt) (lit≤ tt) refl,
      )

  end_sound : is_old_end_sound row ≡ true → is_end_sound (with_zero_cents row) ≡ true
  unfolding is_old_end_sound is_end_sound is_balance_zero is_live is_deleted
  end_sound t =
      rw (
        dollars_kept,
        status_kept,
        kept 199 200 (lit≤ tt) (lit≤ tt) refl,
        zero_there,
        zeros_digits,
        zeros-zero,
        and-true (is_zero (columns 66 73 row)),
        rest_blank (and_right (is_deleted_exactly (is_zero (row_arrearage row)) row) (is_blank (columns 197 200 row)) t),
        and_left (is_deleted_exactly (is_zero (row_arrearage row)) row) (is_blank (columns 197 200 row)) t,
      )

  pub converted_sound : is_sound_old_row row ≡ true → is_sound_row (with_zero_cents row) ≡ true
  unfolding is_sound_old_row is_sound_row
  converted_sound t =
      let r = and_right (is_sound_key (row_key row)) (are_fields_sound row && is_old_end_sound row) t in
      rw (
        key_kept,
        fields_kept,
        and_left (is_sound_key (row_key row)) (are_fields_sound row && is_old_end_sound row) t,
        and_left (are_fields_sound row) (is_old_end_sound row) r,
        end_sound (and_right (are_fields_sound row) (is_old_end_sound row) r),
      )
