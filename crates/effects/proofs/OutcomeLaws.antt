-- The verdicts read off an outcome are those that were written: each off its number and its reject record. Assumes nothing.
use Prim.Native.Nat.{ℕ}
use mathlib.Core.Path.{◌≡◌, refl, ap, ap₂, ◌∙◌}
use mathlib.Core.Bool.{true, cond}
use mathlib.Core.List.{List, [], ◌∷◌, ◌++◌, append_assoc, append-nil}
use mathlib.Core.Option.{Option, none, some}
use native.Mathlib.Omega.{arith}
use lib.ListN.{length, take, drop, length-map}
use lib.Seq.{take_at, drop_at}
use borrow.Author.Tests.{ne_eqb}
use Rattle.answers.specs.Answer.{is_carried_out}
use Rattle.text.specs.Options.{is_some}
use Rattle.text.specs.Fields.{columns}
use Rattle.layout.specs.Codes.{number_of_codes, RisingCodes}
use Rattle.text.specs.Blocks.{joined, over}
use Rattle.casemaster.specs.Master.{rows_of}
use Rattle.casemaster.specs.Rows.{row_with}
use Rattle.layout.proofs.CodesLaws.{codes-number}
use Rattle.layout.specs.Record.{record_key}
use Rattle.layout.specs.Batch.{detail_count, details_of, submitting_state}
use Rattle.onecase.specs.Verdict.{Judgement, judgement, has_code}
use Rattle.judging.proofs.CodeSums.{number_none}
use Rattle.onecase.proofs.JudgementLaws.{name_width}
use Rattle.onecase.proofs.JudgedLaws.{Judged, judged}
use Rattle.turns.specs.Turns.{after_detail, verdict_on, verdicts_on}
use Rattle.rejectfile.specs.Rejects.{number_of, numbers, four_columns, reject_record, if_any, reject_records}
use Rattle.rejectfile.specs.Counts.{counts_of, control_record}
use Rattle.rejectfile.proofs.RejectColumns.{reject_columns}
use Rattle.effects.specs.TwoBatches.{read_verdicts, verdicts_left}
use Rattle.text.proofs.BlocksLaws.{length-blocks}
use Rattle.text.proofs.WidthLaws.{All, joined-append}
use Rattle.turns.proofs.TurnsLaws.{found_wide, after_wide}
use Rattle.turns.proofs.UnderLaws.{IsRecord, length_verdicts}
use Rattle.casemaster.proofs.RowsLaws.{Each, IsWide}
use Rattle.judging.specs.Setting.{Setting}
use Rattle.turns.specs.Settings.{Settings, setting_under}
use Rattle.batch.specs.Call.{Call, call_settings}
use Rattle.batch.specs.Apply.{ApplyOutcome, call_verdicts, IsOutcome}
use Rattle.batch.proofs.CarriedLaws.{start_fit, records, numbers-read, rejects_read}

-- ---- a verdict that can be read again

-- its codes rise below 64, its reject record is 245 bytes, and there is a name exactly with 17: that in columns 240–243
pub record Shown (detail : List ℕ) (verdict : Judgement) : Type 0 where
  pub rises : RisingCodes 0 64 verdict.codes
  pub long : length (reject_record detail verdict) ≡ 245
  pub name_is : verdict.name ≡ cond (has_code 17 verdict.codes) (some (columns 240 243 (reject_record detail verdict))) none

-- each of the machine's verdicts is one
module _ (setting : Setting) (row : Option (List ℕ)) (detail : List ℕ) (w : Each IsWide row) where
  abbrev said : Judgement
  said = judgement setting row detail

  told : Judged row said
  told = judged setting row detail

  -- the four bytes of its name, or four spaces
  name_four : length (four_columns said.name) ≡ 4
  name_four = go said.name refl
    where
      wide : (o : Option (List ℕ)) (r : List ℕ) → Each IsWide o → o ≡ some r → length r ≡ 200
      wide o r h e = rw e at h

      go : (o : Option (List ℕ)) → said.name ≡ o → length (four_columns o) ≡ 4
      go none e = refl
      go (some bytes) e =
          let n = told.name_is bytes e in
          rw n.2 (name_width n.0 (wide row n.0 w n.1))

  pub shown : length detail ≡ 245 → Shown detail said
  shown e =
      record {
        rises = told.rises;
        long = (reject_columns detail said e name_four).wide;
        name_is = rw (told.named, (reject_columns detail said e name_four).name_is) (go said.name);
      }
    where
      go : (o : Option (List ℕ)) → o ≡ cond (is_some o) (some (four_columns o)) none
      go none = refl
      go (some bytes) = refl

-- ---- the verdicts of a batch

abbrev pub AllShown : List (List ℕ) → List Judgement → Type 0
AllShown [] [] = Unit {0}
AllShown [] (v ∷ vs) = ⊥
AllShown (d ∷ ds) [] = ⊥
AllShown (d ∷ ds) (v ∷ vs) = Shown d v × AllShown ds vs

module _ (settings : Settings) where
  pub all_shown : (rows details : List (List ℕ)) → All IsRecord details → All IsWide rows → AllShown details (verdicts_on settings rows details)
  unfolding verdicts_on verdict_on
  all_shown rows [] a w = tt
  all_shown rows (d ∷ details) a w = (
    shown (setting_under settings (record_key d)) (row_with (record_key d) rows) d (found_wide (record_key d) rows w) a.0,
    all_shown (after_detail settings rows d) details a.1 (after_wide settings rows d a.0 w),
  )

-- ---- there and back

-- a set with a code has another number than 0
any_number : (c : ℕ) (cs : List ℕ) → number_of_codes (c ∷ cs) ≡ 0 → ⊥
any_number c cs e = let n : c ∷ cs ≡ [] = number_none (c ∷ cs) e in let z : ◌≡◌ {A = ℕ} 0 1 = cc in omega arith

-- a verdict off its number and what stands where its reject record is
read_one : (detail : List ℕ) (verdict : Judgement) (ns rejects : List ℕ) → Shown detail verdict
    → read_verdicts (number_of verdict ∷ ns) (joined (if_any verdict.codes (reject_record detail verdict)) ++ rejects)
    ≡ verdict ∷ read_verdicts ns rejects
unfolding read_verdicts joined
read_one detail verdict ns rejects s = go verdict.codes verdict.name (reject_record detail verdict) s.rises s.long s.name_is
  where
    go : (cs : List ℕ) (name : Option (List ℕ)) (reject : List ℕ) → RisingCodes 0 64 cs → length reject ≡ 245
        → name ≡ cond (has_code 17 cs) (some (columns 240 243 reject)) none
        → read_verdicts (number_of_codes cs ∷ ns) (joined (if_any cs reject) ++ rejects) ≡ record { codes = cs; name = name } ∷ read_verdicts ns rejects
    go [] name reject r l e = rw (codes-number [] tt, e)
    go (c ∷ cs) name reject r l e =
        rw (
          codes-number (c ∷ cs) r,
          ne_eqb (number_of_codes (c ∷ cs)) 0 (any_number c cs),
          append-nil reject,
          take_at reject rejects 245 l,
          drop_at reject rejects 245 l,
          e,
        )

-- all of them, whatever stands behind the reject records
pub read_back : (details : List (List ℕ)) (verdicts : List Judgement) (rest : List ℕ) → AllShown details verdicts
    → read_verdicts (numbers verdicts) (joined (reject_records details verdicts) ++ rest) ≡ verdicts
unfolding numbers reject_records read_verdicts
read_back [] [] rest s = refl
read_back [] (v ∷ verdicts) rest s = absurd s
read_back (d ∷ details) [] rest s = absurd s
read_back (d ∷ details) (v ∷ verdicts) rest s =
    let first : List (List ℕ) = if_any v.codes (reject_record d v) in
    let others : List (List ℕ) = reject_records details verdicts in
    ap (λ (z : List ℕ). read_verdicts (numbers (v ∷ verdicts)) (z ++ rest)) (joined-append first others)
    ∙ ap (read_verdicts (numbers (v ∷ verdicts))) (append_assoc (joined first) (joined others) rest)
    ∙ read_one d v (numbers verdicts) (joined others ++ rest) s.0
    ∙ ap (λ (z : List Judgement). v ∷ z) (read_back details verdicts rest s.1)

pub length-numbers : (verdicts : List Judgement) → length (numbers verdicts) ≡ length verdicts
unfolding numbers
length-numbers verdicts = length-map verdicts number_of

-- from the buffers, whatever they held
pub read-over : (details : List (List ℕ)) (verdicts : List Judgement) (n : ℕ) (control old-numbers old-rejects : List ℕ)
    → AllShown details verdicts → length verdicts ≡ n
    → read_verdicts (take n (over (numbers verdicts) old-numbers)) (over (joined (reject_records details verdicts) ++ control) old-rejects) ≡ verdicts
unfolding over
read-over details verdicts n control old-numbers old-rejects s e =
    let l : length (numbers verdicts) ≡ n = length-numbers verdicts ∙ e in
    let rejects : List ℕ = joined (reject_records details verdicts) in
    let rest : List ℕ = drop (length (rejects ++ control)) old-rejects in
    rw (take_at (numbers verdicts) (drop (length (numbers verdicts)) old-numbers) n l, append_assoc rejects control rest)
    (read_back details verdicts (control ++ rest) s)

-- of a batch that is carried out
pub verdicts_read : (c : Call) (o : ApplyOutcome) → IsOutcome c o → is_carried_out o.answer ≡ true → verdicts_left c o ≡ call_verdicts c
unfolding details_of
verdicts_read c o i t =
    let rows : List (List ℕ) = rows_of c.rows c.master in
    let details : List (List ℕ) = details_of c.batch in
    ap₂ (λ (ns rejects : List ℕ). read_verdicts (take (detail_count c.batch) ns) rejects) (numbers-read c o i t) (rejects_read c o i t)
    ∙ read-over details (call_verdicts c) (detail_count c.batch) (control_record (submitting_state c.batch) (counts_of details (call_verdicts c)))
    c.verdicts c.rejects (all_shown (call_settings c) rows details (records c o i t) (start_fit c o i t).wide)
    (length_verdicts (call_settings c) rows details ∙ length-blocks 245 (detail_count c.batch) c.batch)
