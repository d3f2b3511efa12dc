-- Demand 3: two batches carried out from the same master are equal in effect exactly when the one-case machine agrees under every key, and
-- what each leaves under a key is the machine's. Assumes nothing.
use Prim.Native.Nat.{ℕ}
use mathlib.Core.Path.{◌≡◌, sym, ap, ◌∙◌}
use mathlib.Core.Logic.{◌⊎◌, inl, inr}
use mathlib.Core.Bool.{true}
use mathlib.Core.List.{List, []}
use lib.ListN.{length}
use Rattle.answers.specs.Answer.{is_carried_out}
use Rattle.layout.specs.Batch.{details_of}
use Rattle.casemaster.specs.Master.{rows_of}
use Rattle.casemaster.specs.Rows.{row_with}
use Rattle.casemaster.proofs.RowsLaws.{same_rows}
use Rattle.turns.specs.Under.{details_under, verdicts_under, run_row, IsKey}
use Rattle.turns.proofs.UnderLaws.{found_final, under_verdicts, under_key}
use Rattle.batch.specs.Call.{Call, call_settings}
use Rattle.batch.specs.Apply.{ApplyOutcome, IsOutcome, rows_left}
use Rattle.batch.proofs.CarriedLaws.{start_fit, records, rows_read, count_left, left_rise}
use Rattle.effects.specs.TwoBatches.{verdicts_left, starting_row, machine_row, machine_verdicts, EqualEffect, MachineAgrees, LeftByMachine, TwoBatches}
use Rattle.effects.proofs.OutcomeLaws.{verdicts_read}

-- ---- one call that is carried out

abbrev start_rows : Call → List (List ℕ)
start_rows c = rows_of c.rows c.master

module _ (c : Call) (o : ApplyOutcome) (i : IsOutcome c o) (t : is_carried_out o.answer ≡ true) where
  -- ---- it is the machine's, under any bytes as key

  row_by_machine : (key : List ℕ) → row_with key (rows_left o) ≡ machine_row key c
  unfolding machine_row
  row_by_machine key =
      ap (row_with key) (rows_read c o i t)
      ∙ found_final (call_settings c) key (start_rows c) (details_of c.batch) (records c o i t) (start_fit c o i t).wide

  verdicts_by_machine : (key : List ℕ) → verdicts_under key (details_of c.batch) (verdicts_left c o) ≡ machine_verdicts key c
  unfolding machine_verdicts
  verdicts_by_machine key =
      ap (verdicts_under key (details_of c.batch)) (verdicts_read c o i t)
      ∙ under_verdicts (call_settings c) key (start_rows c) (details_of c.batch) (records c o i t) (start_fit c o i t).wide

  left_by_machine : LeftByMachine c o
  left_by_machine = record { row = λ key k. row_by_machine key; verdicts = λ key k. verdicts_by_machine key }

  -- without details the starting row is the end; what has details is a key of twelve bytes
  start_or_key : (key : List ℕ) → (machine_row key c ≡ starting_row key c) ⊎ IsKey key
  unfolding machine_row run_row
  start_or_key key = go (under_key key (details_of c.batch) (records c o i t))
    where
      go : (details_under key (details_of c.batch) ≡ []) ⊎ IsKey key → (machine_row key c ≡ starting_row key c) ⊎ IsKey key
      go (inl e) = inl (rw e)
      go (inr k) = inr k

-- ---- two calls

pub two_batches : TwoBatches
two_batches g h o p ig ih tg th s = ((to, fro), left_by_machine g o ig tg, left_by_machine h p ih th)
  where
    to : EqualEffect g o h p → MachineAgrees g h
    to e =
        record {
          row = λ key k. sym (row_by_machine g o ig tg key) ∙ ap (row_with key) e.rows ∙ row_by_machine h p ih th key;
          verdicts = λ key k. sym (verdicts_by_machine g o ig tg key) ∙ e.verdicts key k ∙ verdicts_by_machine h p ih th key;
        }

    -- the machine that agrees under each key agrees under any bytes
    agrees : MachineAgrees g h → (key : List ℕ) → machine_row key g ≡ machine_row key h
    agrees m key = go (start_or_key g o ig tg key) (start_or_key h p ih th key)
      where
        go : (machine_row key g ≡ starting_row key g) ⊎ IsKey key → (machine_row key h ≡ starting_row key h) ⊎ IsKey key
            → machine_row key g ≡ machine_row key h
        go (inl e) (inl f) = e ∙ ap (row_with key) s.rows ∙ sym f
        go (inl e) (inr k) = m.row key k
        go (inr k) f = m.row key k

    fro : MachineAgrees g h → EqualEffect g o h p
    fro m =
        let rows : rows_left o ≡ rows_left p =
        same_rows (rows_left o) (rows_left p) (left_rise g o ig tg) (left_rise h p ih th)
        (λ key. row_by_machine g o ig tg key ∙ agrees m key ∙ sym (row_by_machine h p ih th key)) in
        record {
          count = count_left g o ig tg ∙ ap length rows ∙ sym (count_left h p ih th);
          rows = rows;
          verdicts = λ key k. verdicts_by_machine g o ig tg key ∙ m.verdicts key k ∙ sym (verdicts_by_machine h p ih th key);
        }
