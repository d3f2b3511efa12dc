-- A conversion that is carried out leaves a sound master, with the same keys, dollars and status. Assumes nothing.
use Prim.Native.Nat.{ℕ}
use mathlib.Core.Path.{◌≡◌, refl, sym, ap, ◌∙◌}
use mathlib.Core.List.{List, [], ◌∷◌, map}
use mathlib.Core.Bool.{true}
use lib.ListN.{length, drop, length-map}
use Rattle.answers.specs.Answer.{is_carried_out}
use Rattle.answers.proofs.AnswerLaws.{outcome_done, none_holds}
use Rattle.text.specs.Blocks.{joined, over}
use Rattle.text.specs.Fields.{every}
use Rattle.text.specs.ByteOrder.{rising}
use Rattle.text.proofs.BlocksLaws.{length-blocks}
use Rattle.text.proofs.FieldsLaws.{and_left, and_right}
use Rattle.text.proofs.WidthLaws.{All, blocks_wide, blocks-joined}
use Rattle.casemaster.specs.Row.{row_arrearage, row_status, balance, is_sound_row, is_sound_old_row}
use Rattle.casemaster.specs.Master.{rows_of, keys_of, are_sound_rows, are_sound_old_rows}
use Rattle.casemaster.specs.Refusals.{old_master_refusal}
use Rattle.casemaster.proofs.RefusalsLaws.{old_master_sound}
use Rattle.casemaster.proofs.RowsLaws.{IsWide}
use Rattle.casemaster.specs.Row.{with_zero_cents}
use Rattle.addcents.specs.Convert.{ConvertCall, ConvertOutcome, convert_run, convert_outcome, AreCentsAdded}
use Rattle.addcents.specs.Theorem.{dollar_cents, old_rows, new_rows, EveryConversion}
use Rattle.addcents.proofs.ConvertLaws.{rows_inside, wide, key_kept, dollars_kept, status_kept, balance_dollars, converted_sound}

-- ---- each row converted

abbrev converted : List (List ℕ) → List (List ℕ)
converted rows = map with_zero_cents rows

all_wide : (rows : List (List ℕ)) → All IsWide rows → All IsWide (converted rows)
all_wide [] h = tt
all_wide (row ∷ rows) h = (wide row h.0, all_wide rows h.1)

-- what is kept of each row is kept of all
all_kept : {X : Type 0} (f g : List ℕ → X) → ((row : List ℕ) → length row ≡ 200 → f (with_zero_cents row) ≡ g row) → (rows : List (List ℕ))
    → All IsWide rows → map f (converted rows) ≡ map g rows
all_kept f g e [] h = refl
all_kept f g e (row ∷ rows) h = rw (e row h.0, all_kept f g e rows h.1)

all_sound : (rows : List (List ℕ)) → All IsWide rows → every is_sound_old_row rows ≡ true → every is_sound_row (converted rows) ≡ true
all_sound [] h t = refl
all_sound (row ∷ rows) h t =
    rw (converted_sound row h.0 (and_left (is_sound_old_row row) (every is_sound_old_row rows) t))
    (all_sound rows h.1 (and_right (is_sound_old_row row) (every is_sound_old_row rows) t))

keys_kept : (rows : List (List ℕ)) → All IsWide rows → keys_of (converted rows) ≡ keys_of rows
unfolding keys_of
keys_kept rows h = all_kept _ _ key_kept rows h

rows_sound : (rows : List (List ℕ)) → All IsWide rows → are_sound_old_rows rows ≡ true → are_sound_rows (converted rows) ≡ true
unfolding are_sound_old_rows are_sound_rows
rows_sound rows h s =
    rw (all_sound rows h (and_left (every is_sound_old_row rows) (rising (keys_of rows)) s), keys_kept rows h)
    (and_right (every is_sound_old_row rows) (rising (keys_of rows)) s)

-- ---- a conversion carried out

module _ (c : ConvertCall) (o : ConvertOutcome) (i : AreCentsAdded c o) (t : is_carried_out o.answer ≡ true) where
  passed : old_master_refusal c.limit c.master c.rows ≡ 0
  unfolding convert_outcome
  passed = none_holds _ c.master (convert_run c) (ap (λ (p : ConvertOutcome). is_carried_out p.answer) (sym i.is) ∙ t)

  wide_before : All IsWide (old_rows c)
  wide_before = blocks_wide 200 c.rows c.master (rows_inside c.limit c.master c.rows passed)

  left_are : new_rows c o ≡ converted (old_rows c)
  unfolding convert_outcome over
  left_are =
      let n : length (converted (old_rows c)) ≡ c.rows = length-map (old_rows c) with_zero_cents ∙ length-blocks 200 c.rows c.master in
      ap (λ (p : ConvertOutcome). rows_of c.rows p.buffers) (i.is ∙ sym (outcome_done _ c.master (convert_run c) passed))
      ∙ (rw n at
      (blocks-joined 200 (converted (old_rows c)) (drop (length (joined (converted (old_rows c)))) c.master) (all_wide (old_rows c) wide_before)))

pub converts : EveryConversion
converts c o i t =
    let w = wide_before c o i t in
    let e = left_are c o i t in
    record {
      sound = rw e (rows_sound (old_rows c) w (old_master_sound c.limit c.master c.rows (passed c o i t)));
      keys = rw e (keys_kept (old_rows c) w);
      dollars = rw e (all_kept row_arrearage row_arrearage dollars_kept (old_rows c) w);
      status = rw e (all_kept row_status row_status status_kept (old_rows c) w);
      balances = rw e (all_kept balance dollar_cents balance_dollars (old_rows c) w);
    }
