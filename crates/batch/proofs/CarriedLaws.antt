-- A batch that is carried out: no refusal stops it, its rows and details are fit, and what it leaves is the run's: the row count, each buffer,
-- and the rows read off the master. Assumes nothing.
use Prim.Native.Nat.{ℕ}
use mathlib.Core.Path.{◌≡◌, sym, ap, ◌∙◌, subst}
use mathlib.Core.Bool.{true}
use mathlib.Core.List.{List, ◌++◌}
use native.Mathlib.Omega.{arith}
use lib.ListN.{length, drop}
use Rattle.answers.specs.Answer.{done, is_carried_out}
use Rattle.answers.proofs.AnswerLaws.{outcome_done, none_holds}
use Rattle.text.specs.Blocks.{joined, over}
use Rattle.text.specs.ByteOrder.{rising}
use Rattle.text.proofs.WidthLaws.{All, blocks_wide, blocks-joined}
use Rattle.layout.specs.Batch.{detail_count, details_of, submitting_state}
use Rattle.casemaster.specs.Master.{rows_of, keys_of}
use Rattle.casemaster.proofs.RowsLaws.{Fit, IsWide, rows_rise}
use Rattle.turns.proofs.UnderLaws.{IsRecord, final_fit}
use Rattle.rejectfile.specs.Rejects.{numbers, reject_records}
use Rattle.rejectfile.specs.Counts.{counts_of, control_record}
use Rattle.batch.specs.Call.{Call, call_settings}
use Rattle.batch.specs.Refusals.{apply_refusal}
use Rattle.batch.specs.Apply.{ApplyOutcome, buffers_lent, call_rows, call_verdicts, apply_run, apply_outcome, IsOutcome, row_count, rows_left}
use Rattle.batch.proofs.PassedLaws.{passed}
use Rattle.batch.proofs.KnownLaws.{Known, known}

-- the rows off a master, whatever it held
rows_over : (rows : List (List ℕ)) (old : List ℕ) → All IsWide rows → rows_of (length rows) (over (joined rows) old) ≡ rows
unfolding over
rows_over rows old w = blocks-joined 200 rows (drop (length (joined rows)) old) w

module _ (c : Call) (o : ApplyOutcome) (i : IsOutcome c o) (t : is_carried_out o.answer ≡ true) where
  passes : apply_refusal c ≡ 0
  unfolding apply_outcome
  passes = none_holds _ (buffers_lent c) (apply_run c) (ap (λ (p : ApplyOutcome). is_carried_out p.answer) (sym i.is) ∙ t)

  pub carried_known : Known c
  carried_known = known c (passed c passes)

  carried_is : o ≡ record { answer = done (apply_run c).result; buffers = (apply_run c).buffers }
  unfolding apply_outcome
  carried_is = i.is ∙ sym (outcome_done _ (buffers_lent c) (apply_run c) passes)

  -- ---- what it is given, and where it ends

  pub start_fit : Fit (rows_of c.rows c.master)
  start_fit = record { wide = blocks_wide 200 c.rows c.master carried_known.rows_in; sound = carried_known.sound }

  pub records : All IsRecord (details_of c.batch)
  unfolding details_of
  records = blocks_wide 245 (detail_count c.batch) c.batch (omega (arith, carried_known.batch_whole))

  pub end_fit : Fit (call_rows c)
  end_fit = final_fit (call_settings c) carried_known.list (rows_of c.rows c.master) (details_of c.batch) records start_fit

  -- ---- read off its outcome

  pub count_read : row_count o.answer ≡ length (call_rows c)
  unfolding apply_run
  count_read = ap (λ (p : ApplyOutcome). row_count p.answer) carried_is

  pub master_read : o.buffers.master ≡ over (joined (call_rows c)) c.master
  unfolding apply_run
  master_read = ap (λ (p : ApplyOutcome). p.buffers.master) carried_is

  pub numbers-read : o.buffers.verdicts ≡ over (numbers (call_verdicts c)) c.verdicts
  unfolding apply_run
  numbers-read = ap (λ (p : ApplyOutcome). p.buffers.verdicts) carried_is

  pub rejects_read : o.buffers.rejects
      ≡ over (joined (reject_records (details_of c.batch) (call_verdicts c))
      ++ control_record (submitting_state c.batch) (counts_of (details_of c.batch) (call_verdicts c))) c.rejects
  unfolding apply_run
  rejects_read = ap (λ (p : ApplyOutcome). p.buffers.rejects) carried_is

  pub rows_read : rows_left o ≡ call_rows c
  rows_read =
      ap (λ (n : ℕ). rows_of n o.buffers.master) count_read
      ∙ ap (rows_of (length (call_rows c))) master_read
      ∙ rows_over (call_rows c) c.master end_fit.wide

  -- the rows are as many as the answer says, and rise
  pub count_left : row_count o.answer ≡ length (rows_left o)
  count_left = count_read ∙ ap length (sym rows_read)

  pub left_rise : rising (keys_of (rows_left o)) ≡ true
  left_rise = subst (λ (rows : List (List ℕ)). rising (keys_of rows) ≡ true) (sym rows_read) (rows_rise (call_rows c) end_fit.sound)
