-- A batch of the records written alone leaves the wanted row in the row's place: under the row's key the machine runs over all of them, with no
-- names given; under every other key there is no detail. Rising rows with the same row under each key are the same. Assumes nothing.
use Prim.Native.Nat.{ℕ, suc}
use mathlib.Core.Path.{◌≡◌, refl, sym, ap, ◌∙◌, subst}
use mathlib.Core.List.{List, [], ◌∷◌, ◌++◌}
use mathlib.Core.Bool.{Bool, true, false, cond}
use mathlib.Core.Option.{Option, some}
use native.Mathlib.Omega.{arith}
use lib.ListN.{length, length-append}
use Rattle.answers.specs.Answer.{is_carried_out}
use Rattle.text.specs.Characters.{B}
use Rattle.text.specs.Fields.{every, same_bytes}
use Rattle.text.specs.ByteOrder.{rising}
use Rattle.text.proofs.FieldsLaws.{and_left, and_right}
use Rattle.text.proofs.SameLaws.{same_eq}
use Rattle.text.proofs.BlocksLaws.{length-blocks}
use Rattle.layout.specs.Record.{record_key}
use Rattle.layout.specs.Batch.{details_of, submitting_state}
use Rattle.casemaster.specs.Row.{row_key, row_state}
use Rattle.casemaster.specs.Master.{rows_of, keys_of}
use Rattle.casemaster.specs.Rows.{row_with}
use Rattle.casemaster.proofs.RowsLaws.{found_behind, rows_rise, same_rows, found_at}
use Rattle.judging.specs.Names.{names_given}
use Rattle.judging.proofs.NamesLaws.{names_none, names_skip}
use Rattle.onecase.specs.Verdict.{Judgement}
use Rattle.turns.specs.Under.{details_under, verdicts_under, run_row, run_verdicts}
use Rattle.turns.specs.Settings.{setting_under}
use Rattle.turns.proofs.UnderLaws.{found_final, under_verdicts, length_verdicts}
use Rattle.batch.specs.Call.{Call, call_settings}
use Rattle.batch.specs.Apply.{ApplyOutcome, call_verdicts, IsOutcome, row_count, rows_left}
use Rattle.batch.proofs.CarriedLaws.{start_fit, records, rows_read, count_left, left_rise}
use Rattle.effects.specs.TwoBatches.{verdicts_left}
use Rattle.effects.proofs.OutcomeLaws.{verdicts_read}
use Rattle.leading.specs.Leads.{is_correction, setting_for, Lead}
use Rattle.leading.specs.Theorem.{records_in}
use Rattle.leading.specs.WholeBatch.{EveryLeadingBatch}
use Rattle.leading.proofs.ReachedLaws.{reached_self}
use Rattle.leading.proofs.NoneLeadsLaws.{correction_key, correction_kind, kind_other, reached_all}
use Rattle.leading.proofs.CallProof.{every_call, lead_wide}

-- ---- records of one key, none of them a B

no_names : (state key : List ℕ) (recs : List (List ℕ)) → every (is_correction key) recs ≡ true → names_given state recs ≡ []
no_names state key [] k = names_none state
no_names state key (rec ∷ recs) k =
    let b = kind_other rec B refl (correction_kind key rec (and_left (is_correction key rec) _ k)) in
    names_skip state rec recs b ∙ no_names state key recs (and_right (is_correction key rec) _ k)

all_under : (key : List ℕ) (recs : List (List ℕ)) → every (is_correction key) recs ≡ true → details_under key recs ≡ recs
unfolding details_under
all_under key [] k = refl
all_under key (rec ∷ recs) k =
    rw (correction_key key rec (and_left (is_correction key rec) _ k))
    (ap (λ (rs : List (List ℕ)). rec ∷ rs) (all_under key recs (and_right (is_correction key rec) _ k)))

none_under_another : (key other : List ℕ) (recs : List (List ℕ)) → every (is_correction key) recs ≡ true → same_bytes key other ≡ false
    → details_under other recs ≡ []
unfolding details_under
none_under_another key other [] k d = refl
none_under_another key other (rec ∷ recs) k d =
    let e = same_eq (record_key rec) key (correction_key key rec (and_left (is_correction key rec) _ k)) in
    rw (e, d) (none_under_another key other recs (and_right (is_correction key rec) _ k) d)

all_verdicts : (key : List ℕ) (recs : List (List ℕ)) (verdicts : List Judgement) → every (is_correction key) recs ≡ true
    → length verdicts ≡ length recs → verdicts_under key recs verdicts ≡ verdicts
unfolding verdicts_under
all_verdicts key [] [] k e = refl
all_verdicts key [] (v ∷ verdicts) k e = absurd (let f : suc (length verdicts) ≡ 0 = e in omega arith)
all_verdicts key (rec ∷ recs) [] k e = absurd (let f : 0 ≡ suc (length recs) = e in omega arith)
all_verdicts key (rec ∷ recs) (v ∷ verdicts) k e =
    let f : length verdicts ≡ length recs = (let g : suc (length verdicts) ≡ suc (length recs) = e in omega arith) in
    rw (correction_key key rec (and_left (is_correction key rec) _ k))
    (ap (λ (vs : List Judgement). v ∷ vs) (all_verdicts key recs verdicts (and_right (is_correction key rec) _ k) f))

-- ---- one row of a master in the place of another with its key

module _ (row wanted : List ℕ) (e : row_key wanted ≡ row_key row) where
  same_keys : (before behind : List (List ℕ)) → keys_of (before ++ (wanted ∷ behind)) ≡ keys_of (before ++ (row ∷ behind))
  unfolding keys_of
  same_keys [] behind = ap (λ (key : List ℕ). key ∷ keys_of behind) e
  same_keys (r ∷ before) behind = ap (λ (keys : List (List ℕ)). row_key r ∷ keys) (same_keys before behind)

  -- under another key nothing changes
  other_row : (key : List ℕ) (before behind : List (List ℕ)) → same_bytes (row_key row) key ≡ false
      → row_with key (before ++ (row ∷ behind)) ≡ row_with key (before ++ (wanted ∷ behind))
  unfolding row_with
  other_row key [] behind d = found_behind key row behind d ∙ sym (found_behind key wanted behind (rw e d))
  other_row key (r ∷ before) behind d =
      ap (λ (found : Option (List ℕ)). cond (same_bytes (row_key r) key) (some r) found) (other_row key before behind d)

-- ---- a batch of records that lead there, alone

module _ (row wanted list : List ℕ) (recs : List (List ℕ)) (c : Call) (o : ApplyOutcome) (before behind : List (List ℕ)) (w : length row ≡ 200)
    (h : Lead row wanted c.year list recs) (details : details_of c.batch ≡ recs) (state : submitting_state c.batch ≡ row_state row)
    (locals : c.locals ≡ list) (stands : rows_of c.rows c.master ≡ before ++ (row ∷ behind)) (i : IsOutcome c o)
    (t : is_carried_out o.answer ≡ true) where
  abbrev key : List ℕ
  key = row_key row

  abbrev start : List (List ℕ)
  start = rows_of c.rows c.master

  abbrev end : List (List ℕ)
  end = before ++ (wanted ∷ behind)

  key_same : row_key wanted ≡ key
  key_same = (reached_all (setting_for row c.year list) key row row recs wanted (reached_self list row w) h.corrections h.ends).key

  start_rise : rising (keys_of (before ++ (row ∷ behind))) ≡ true
  start_rise =
      subst (λ (rows : List (List ℕ)). rising (keys_of rows) ≡ true) stands (rows_rise start (start_fit c o i t).sound)

  end_rise : rising (keys_of end) ≡ true
  end_rise = rw (same_keys row wanted key_same before behind) start_rise

  -- ---- under the row's key

  under_is : details_under key (details_of c.batch) ≡ recs
  under_is = ap (details_under key) details ∙ all_under key recs h.corrections

  names_are : names_given (submitting_state c.batch) (details_under key (details_of c.batch)) ≡ []
  names_are = ap (names_given (submitting_state c.batch)) under_is ∙ no_names (submitting_state c.batch) key recs h.corrections

  setting_is : setting_under (call_settings c) key ≡ setting_for row c.year list
  setting_is = rw (names_are, state, locals)

  start_is : row_with key start ≡ some row
  start_is = ap (row_with key) stands ∙ found_at before row behind start_rise

  run_is : run_row (setting_under (call_settings c) key) (row_with key start) (details_under key (details_of c.batch)) ≡ some wanted
  run_is = rw (setting_is, start_is, under_is) h.ends

  verdicts_are : run_verdicts (setting_under (call_settings c) key) (row_with key start) (details_under key (details_of c.batch))
      ≡ run_verdicts (setting_for row c.year list) (some row) recs
  verdicts_are = rw (setting_is, start_is, under_is)

  -- ---- under each key the same row

  left_is : (k : List ℕ)
      → row_with k (rows_left o) ≡ run_row (setting_under (call_settings c) k) (row_with k start) (details_under k (details_of c.batch))
  left_is k =
      ap (row_with k) (rows_read c o i t)
      ∙ found_final (call_settings c) k start (details_of c.batch) (records c o i t) (start_fit c o i t).wide

  other_is : (k : List ℕ) → same_bytes key k ≡ false → row_with k (rows_left o) ≡ row_with k end
  unfolding run_row
  other_is k d =
      let n : details_under k (details_of c.batch) ≡ [] = ap (details_under k) details ∙ none_under_another key k recs h.corrections d in
      left_is k ∙ rw n (ap (row_with k) stands ∙ other_row row wanted key_same k before behind d)

  own_is : row_with key (rows_left o) ≡ row_with key end
  own_is =
      let e : row_with (row_key wanted) end ≡ some wanted = found_at before wanted behind end_rise in
      left_is key ∙ run_is ∙ sym (rw key_same at e)

  each_is : (k : List ℕ) (b : Bool) → same_bytes key k ≡ b → row_with k (rows_left o) ≡ row_with k end
  each_is k true e = subst (λ (x : List ℕ). row_with x (rows_left o) ≡ row_with x end) (same_eq key k e) own_is
  each_is k false e = other_is k e

  rows_are : rows_left o ≡ end
  rows_are = same_rows (rows_left o) end (left_rise c o i t) end_rise (λ k. each_is k (same_bytes key k) refl)

  count_is : row_count o.answer ≡ c.rows
  count_is =
      let e = count_left c o i t ∙ ap length rows_are ∙ length-append before (wanted ∷ behind) in
      let f = sym (length-blocks 200 c.rows c.master) ∙ ap length stands ∙ length-append before (row ∷ behind) in
      let g : length (wanted ∷ behind) ≡ length (row ∷ behind) = refl in
      omega (arith, e, f, g)

  -- ---- and no error

  read_are : verdicts_left c o ≡ run_verdicts (setting_for row c.year list) (some row) recs
  read_are =
      let v : length (call_verdicts c) ≡ length recs = length_verdicts (call_settings c) start (details_of c.batch) ∙ ap length details in
      let u = under_verdicts (call_settings c) key start (details_of c.batch) (records c o i t) (start_fit c o i t).wide in
      verdicts_read c o i t
      ∙ sym (all_verdicts key recs (call_verdicts c) h.corrections v)
      ∙ ap (λ (ds : List (List ℕ)). verdicts_under key ds (call_verdicts c)) (sym details)
      ∙ u
      ∙ verdicts_are

-- ---- the theorem

pub every_leading_batch : EveryLeadingBatch
every_leading_batch s n c o before behind b is r a stands i t =
    let h = (every_call s b is).lead n r c.year in
    let w = lead_wide s b is n r in
    record {
      count = count_is s.row s.wanted s.list (records_in n s) c o before behind w h a.details a.state a.list stands i t;
      rows = rows_are s.row s.wanted s.list (records_in n s) c o before behind w h a.details a.state a.list stands i t;
      no_error =
          rw (read_are s.row s.wanted s.list (records_in n s) c o before behind w h a.details a.state a.list stands i t)
          h.no_error;
    }
