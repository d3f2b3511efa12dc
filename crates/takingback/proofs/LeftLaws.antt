-- What a batch that is carried out leaves of the master: as many sound rows as there is room for, in which each key that had a row has one.
-- Assumes nothing.
use Prim.Native.Nat.{ℕ, suc, ◌+◌, ◌*◌, ◌/◌, ◌%◌, ◌≤◌}
use mathlib.Core.Path.{◌≡◌, refl, sym, ap, ◌∙◌, subst}
use mathlib.Core.Bool.{true, false}
use mathlib.Core.List.{List, [], ◌∷◌}
use mathlib.Core.Option.{Option, none}
use native.Mathlib.Omega.{arith}
use lib.ListN.{length, drop, length-append, length-drop}
use borrow.Author.Tests.{eq-eqb, le-ltb}
use Rattle.answers.specs.Answer.{is_carried_out}
use Rattle.text.specs.Blocks.{joined, over}
use Rattle.text.proofs.BlocksLaws.{length-blocks}
use Rattle.text.proofs.WidthLaws.{All}
use Rattle.layout.specs.Record.{record_key}
use Rattle.layout.specs.Batch.{detail_count, details_of}
use Rattle.judging.specs.Setting.{Setting}
use Rattle.casemaster.specs.Master.{rows_of, are_sound_rows}
use Rattle.casemaster.specs.Refusals.{refusal3, refusal4, master_refusal}
use Rattle.casemaster.specs.Rows.{row_with}
use Rattle.casemaster.proofs.RowsLaws.{IsWide, rows_rise}
use Rattle.onecase.specs.Machine.{next}
use Rattle.turns.specs.Turns.{after_detail, final_rows}
use Rattle.turns.specs.Under.{details_under, run_row}
use Rattle.turns.specs.Settings.{Settings, setting_under}
use Rattle.turns.specs.Adds.{adds_without_row}
use Rattle.turns.proofs.TurnsLaws.{none_stays}
use Rattle.turns.proofs.UnderLaws.{found_final, final_few}
use Rattle.journal.proofs.LengthLaws.{entry_count, count_stored, count_start}
use Rattle.takeback.specs.Theorem.{AreWide, Follows, IsLeftBy}
use Rattle.batch.specs.Call.{Call, call_settings}
use Rattle.batch.specs.Apply.{ApplyOutcome, IsOutcome, row_count, call_rows}
use Rattle.batch.proofs.KnownLaws.{Known}
use Rattle.batch.proofs.CarriedLaws.{carried_known, start_fit, records, end_fit, count_read, master_read, rows_read}
use Rattle.takingback.specs.TakenBack.{rows_at_entry, HasRowsLeft}

-- a run that ends without a row began without one
run_none : (setting : Setting) (o : Option (List ℕ)) (details : List (List ℕ)) → run_row setting o details ≡ none → o ≡ none
unfolding run_row
run_none setting o [] e = e
run_none setting o (d ∷ details) e = none_stays setting o d (run_none setting (next setting o d) details e)

are_wide : (rows : List (List ℕ)) → All IsWide rows → AreWide rows
are_wide [] w = tt
are_wide (row ∷ rows) w = (w.0, are_wide rows w.1)

length_rows : (rows : List (List ℕ)) → All IsWide rows → length (joined rows) ≡ length rows * 200
unfolding joined
length_rows [] w = refl
length_rows (row ∷ rows) w = length-append row (joined rows) ∙ omega (arith, w.0, length_rows rows w.1)

pub length_over : (new old : List ℕ) → length new ≤ length old → length (over new old) ≡ length old
unfolding over
length_over new old l = length-append new (drop (length new) old) ∙ omega (arith, length-drop (length new) old)

-- a master that 3 lets pass
passes_3 : (limit : ℕ) (master : List ℕ) (rows : ℕ) → length master % 200 ≡ 0 → rows ≤ length master / 200 → rows ≤ limit
    → refusal3 limit master rows ≡ false
unfolding refusal3
passes_3 limit master rows a b c = rw (eq-eqb (length master % 200) 0 a, le-ltb (length master / 200) rows b, le-ltb limit rows c)

-- and 4 too
passes_4 : (limit : ℕ) (master : List ℕ) (rows : ℕ) → refusal3 limit master rows ≡ false → are_sound_rows (rows_of rows master) ≡ true
    → master_refusal limit master rows 0 ≡ 0
unfolding master_refusal refusal4
passes_4 limit master rows a s = rw (a, s)

-- each detail makes at most one more entry
count_after : (settings : Settings) (old rows : List (List ℕ)) (d : List ℕ) → entry_count old (after_detail settings rows d) ≤ suc (entry_count old rows)
unfolding after_detail
count_after settings old rows d =
    count_stored old (next (setting_under settings (record_key d)) (row_with (record_key d) rows) d) rows

count_final : (settings : Settings) (old rows details : List (List ℕ)) → entry_count old (final_rows settings rows details) ≤ entry_count old rows + length details
unfolding final_rows
count_final settings old rows [] = omega arith
count_final settings old rows (d ∷ details) =
    omega (arith, count_final settings old (after_detail settings rows d) details, count_after settings old rows d)

module _ (c : Call) (o : ApplyOutcome) (i : IsOutcome c o) (t : is_carried_out o.answer ≡ true) where
  facts : Known c
  facts = carried_known c o i t

  -- as many rows as there is room for
  few : length (call_rows c) ≤ c.rows + adds_without_row (rows_at_entry c) (details_of c.batch)
  few =
      omega (
        arith,
        final_few (call_settings c) facts.list (rows_at_entry c) (details_of c.batch) (records c o i t) (start_fit c o i t).wide (start_fit c o i t).sound,
        length-blocks 200 c.rows c.master,
      )

  -- rows keep to the limit, before and after
  pub before_limit : length (rows_at_entry c) ≤ c.limit
  before_limit = omega (arith, length-blocks 200 c.rows c.master, facts.rows_limit)

  pub after_limit : length (call_rows c) ≤ c.limit
  after_limit = omega (arith, few, facts.room_limit)

  -- at most one entry for each detail
  pub entries_few : entry_count (rows_at_entry c) (call_rows c) ≤ detail_count c.batch
  unfolding details_of
  entries_few =
      omega (
        arith,
        count_final (call_settings c) (rows_at_entry c) (rows_at_entry c) (details_of c.batch),
        count_start (rows_at_entry c) (rows_rise (rows_at_entry c) (start_fit c o i t).sound),
        length-blocks 245 (detail_count c.batch) c.batch,
      )

  same_length : length o.buffers.master ≡ length c.master
  same_length =
      ap length (master_read c o i t)
      ∙ length_over (joined (call_rows c)) c.master (omega (arith, length_rows (call_rows c) (end_fit c o i t).wide, few, facts.room))

  follows : Follows (rows_at_entry c) (call_rows c)
  follows =
      record {
        old_rise = rows_rise (rows_at_entry c) (start_fit c o i t).sound;
        new_rise = rows_rise (call_rows c) (end_fit c o i t).sound;
        stays = λ key e.
            run_none (setting_under (call_settings c) key) (row_with key (rows_at_entry c)) (details_under key (details_of c.batch))
            (sym (found_final (call_settings c) key (rows_at_entry c) (details_of c.batch) (records c o i t) (start_fit c o i t).wide) ∙ e);
      }

  pub own_passes : refusal3 c.limit o.buffers.master (row_count o.answer) ≡ false
  own_passes =
      passes_3 c.limit o.buffers.master (row_count o.answer) (ap (λ (n : ℕ). n % 200) same_length ∙ facts.master_whole)
      (omega (arith, count_read c o i t, few, facts.room, same_length)) (omega (arith, count_read c o i t, after_limit))

  pub left_by_lem : (master : List ℕ) → HasRowsLeft c o master → IsLeftBy c.limit (rows_at_entry c) master (row_count o.answer)
  left_by_lem master h =
      let e : rows_of (row_count o.answer) master ≡ call_rows c = h.rows ∙ rows_read c o i t in
      record {
        wide = are_wide (rows_at_entry c) (start_fit c o i t).wide;
        sound = (start_fit c o i t).sound;
        passed =
            passes_4 c.limit master (row_count o.answer) h.passes_3
            (subst (λ (rows : List (List ℕ)). are_sound_rows rows ≡ true) (sym e) (end_fit c o i t).sound);
        follows = subst (λ (rows : List (List ℕ)). Follows (rows_at_entry c) rows) (sym e) follows;
      }

  pub count_before : length (rows_at_entry c) ≡ c.rows
  count_before = length-blocks 200 c.rows c.master
