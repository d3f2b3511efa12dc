-- Every posting that is carried out balances, under each key and over the whole master, keeps keys, order and soundness, and does under each
-- key what the one-key machine does; so the order of lines of different keys doesn't matter. Assumes nothing.
use Prim.Native.Nat.{ℕ, suc, ◌+◌, ◌<◌, suc-le-suc}
use native.Mathlib.Nat.{zero-lt-suc}
use mathlib.Core.Path.{◌≡◌, refl, sym, ap, ◌∙◌}
use mathlib.Core.List.{List, [], ◌∷◌, ◌++◌}
use mathlib.Core.Bool.{Bool, true, false, cond}
use mathlib.Core.Option.{some}
use native.Mathlib.Omega.{arith}
use borrow.Author.Tests.{eqb-true, eqb-false}
use lib.Dec.{eqb}
use lib.ListN.{length, drop, get_or, length-map}
use Rattle.answers.specs.Answer.{is_carried_out}
use Rattle.answers.proofs.AnswerLaws.{outcome_done, none_holds}
use Rattle.text.specs.Blocks.{joined, over}
use Rattle.text.specs.Fields.{same_bytes}
use Rattle.text.specs.ByteOrder.{order_of, is_less, is_equal, rising}
use Rattle.text.proofs.BlocksLaws.{length-blocks}
use Rattle.text.proofs.ByteOrderLaws.{same_order, less_sides}
use Rattle.text.proofs.SameLaws.{same_eq}
use Rattle.text.proofs.WidthLaws.{blocks-joined}
use Rattle.casemaster.specs.Master.{keys_of}
use Rattle.casemaster.specs.Refusals.{master_refusal}
use Rattle.casemaster.specs.Row.{row_key, balance}
use Rattle.casemaster.specs.Rows.{row_with}
use Rattle.casemaster.proofs.RefusalsLaws.{master_refused}
use Rattle.casemaster.proofs.RowsLaws.{Fit, rows_rise, same_rows}
use Rattle.casemaster.proofs.SearchLaws.{rows_head, rows_tail}
use Rattle.collectionfile.specs.File.{file_refusal, lines_in, line_count}
use Rattle.posting.specs.Posting.{is_posted_in, after_line, posted_lines, listed_from}
use Rattle.balancing.specs.Balances.{one_key, all_keys, sum_under, balances, key_balance, balance_in}
use Rattle.posting.specs.Post.{PostCall, PostOutcome, rows_before, rows_after, lent_to, post_run, refusal_of, post_outcome, IsPosting}
use Rattle.balancing.specs.Theorem.{rows_after_posting, EveryPosting, TwoPostings}
use Rattle.posting.proofs.TurnLaws as Turns
use Rattle.balancing.proofs.SumLaws as Sums
use Rattle.balancing.proofs.UnderLaws as Under
use Rattle.posting.proofs.PostLaws.{rows_fit}
use Rattle.balancing.proofs.BalanceProof.{balanced}

-- ---- what stands under one key

-- rows above a key have none of it
none_of_key : (key : List ℕ) (rows : List (List ℕ)) → ((p : ℕ) → p < length rows → is_less (order_of key (row_key (get_or rows p []))) ≡ true)
    → balances (one_key key) rows ≡ 0
unfolding sum_under is_equal
none_of_key key [] h = refl
none_of_key key (row ∷ rows) h =
    let o : is_less (order_of key (row_key row)) ≡ true = h 0 (zero-lt-suc (length rows)) in
    let z : balances (one_key key) rows ≡ 0 = none_of_key key rows (λ p l. h (suc p) (suc-le-suc l)) in
    rw (same_order (row_key row) key, (less_sides key (row_key row) o).1) (omega arith)

pub under_one : (key : List ℕ) (rows : List (List ℕ)) → rising (keys_of rows) ≡ true → balances (one_key key) rows ≡ key_balance key rows
unfolding sum_under key_balance row_with
under_one key [] r = refl
under_one key (row ∷ rows) r = go (same_bytes (row_key row) key) refl (under_one key rows (rows_tail row rows r))
  where
    go : (b : Bool) → same_bytes (row_key row) key ≡ b → balances (one_key key) rows ≡ key_balance key rows
        → cond b (balance row) 0 + balances (one_key key) rows ≡ balance_in (cond b (some row) (row_with key rows))
    go true e ih =
        let k : row_key row ≡ key = same_eq (row_key row) key e in
        let z = none_of_key key rows (λ p l. rw k at (rows_head row rows r p l)) in
        omega (arith, z)
    go false e ih = omega (arith, ih)

-- ---- each line is posted or listed

told : (n : ℕ) (rows lines : List (List ℕ)) → length (posted_lines rows lines) + length (listed_from n rows lines) ≡ length lines
unfolding posted_lines listed_from
told n rows [] = refl
told n rows (line ∷ lines) = go (is_posted_in rows line) (told (suc n) (after_line rows line) lines)
  where
    go : (b : Bool) → length (posted_lines (after_line rows line) lines) + length (listed_from (suc n) (after_line rows line) lines) ≡ length lines
        → length (cond b (line ∷ []) [] ++ posted_lines (after_line rows line) lines)
        + length (cond b [] (n ∷ []) ++ listed_from (suc n) (after_line rows line) lines)
        ≡ suc (length lines)
    go true h = omega (arith, h)
    go false h = omega (arith, h)

-- ---- where no refusal holds

module _ (c : PostCall) (e : refusal_of c ≡ 0) where
  master_right : master_refusal c.limit c.master c.rows 0 ≡ 0
  master_right = go (eqb (master_refusal c.limit c.master c.rows 0) 0) refl
    where
      go : (b : Bool) → eqb (master_refusal c.limit c.master c.rows 0) 0 ≡ b → master_refusal c.limit c.master c.rows 0 ≡ 0
      go true h = eqb-true (master_refusal c.limit c.master c.rows 0) 0 h
      go false h =
          let n = eqb-false (master_refusal c.limit c.master c.rows 0) 0 h in
          absurd (n (sym (master_refused c.limit c.master c.rows n (file_refusal c.limit c.file (length c.lines))) ∙ e))

  fit_before : Fit (rows_before c)
  fit_before = rows_fit c.limit c.master c.rows master_right

  fit_after : Fit (rows_after c)
  fit_after = Turns.all_fit (rows_before c) (lines_in c.file) fit_before

  -- as many rows as before
  as_many : length (rows_after c) ≡ c.rows
  unfolding keys_of
  as_many =
      sym (length-map (rows_after c) row_key)
      ∙ ap length (Sums.keys_stay (rows_before c) (lines_in c.file) fit_before)
      ∙ length-map (rows_before c) row_key
      ∙ length-blocks 200 c.rows c.master

-- ---- a posting carried out

module _ (c : PostCall) (o : PostOutcome) (i : IsPosting c o) (t : is_carried_out o.answer ≡ true) where
  passed : refusal_of c ≡ 0
  unfolding post_outcome
  passed = none_holds (refusal_of c) (lent_to c) (post_run c) (ap (λ (p : PostOutcome). is_carried_out p.answer) (sym i.is) ∙ t)

  fit : Fit (rows_before c)
  fit = fit_before c passed

  left_are : rows_after_posting c o ≡ rows_after c
  unfolding post_outcome over
  left_are =
      ap (λ (p : PostOutcome). rows_after_posting c p) (i.is ∙ sym (outcome_done (refusal_of c) (lent_to c) (post_run c) passed))
      ∙ (rw (as_many c passed) at
      (blocks-joined 200 (rows_after c) (drop (length (joined (rows_after c))) c.master) (fit_after c passed).wide))

  rising_left : rising (keys_of (rows_after_posting c o)) ≡ true
  rising_left = rw left_are (rows_rise (rows_after c) (fit_after c passed).sound)

pub posts : EveryPosting
unfolding lines_in
posts c o i t =
    let e = left_are c o i t in
    let f = fit c o i t in
    record {
      each_key = λ key. rw e (balanced (one_key key) (rows_before c) (lines_in c.file) f);
      whole_master = rw e (balanced all_keys (rows_before c) (lines_in c.file) f);
      one_before = λ key. under_one key (rows_before c) (rows_rise (rows_before c) f.sound);
      one_after = λ key. under_one key (rows_after_posting c o) (rising_left c o i t);
      keys_stay = rw e (Sums.keys_stay (rows_before c) (lines_in c.file) f);
      rows_sound = rw e (fit_after c (passed c o i t)).sound;
      all_told = told 1 (rows_before c) (lines_in c.file) ∙ length-blocks 240 (line_count c.file) c.file;
      listed_idle = e ∙ Under.listed_idle (rows_before c) (lines_in c.file);
      row_run = λ key. ap (row_with key) e ∙ Under.row_run key (rows_before c) (lines_in c.file) f;
      posted_run = λ key. Under.posted_run key (rows_before c) (lines_in c.file) f;
    }

-- ---- two postings

pub two_postings : TwoPostings
two_postings g h o p i j t u same lines =
    let a = posts g o i t in
    let b = posts h p j u in
    record {
      rows =
          same_rows (rows_after_posting g o) (rows_after_posting h p) (rising_left g o i t) (rising_left h p j u)
          (λ key. a.row_run key ∙ rw (same, lines key) (sym (b.row_run key)));
      posted_same = λ key. a.posted_run key ∙ rw (same, lines key) (sym (b.posted_run key));
    }
