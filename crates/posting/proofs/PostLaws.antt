-- Laws of the call: what is known where no refusal holds, and the outcome from what the work leaves. Assumes nothing.
use Prim.Native.Nat.{ℕ, ◌-◌, ◌*◌, ◌/◌, ◌≤◌}
use mathlib.Core.Path.{◌≡◌, sym, ap, ◌∙◌}
use mathlib.Core.List.{List, ◌++◌}
use native.Mathlib.Omega.{arith}
use lib.ListN.{length, drop, take-append-drop}
use lib.Seq.{length-take-le}
use Rattle.answers.specs.Refusal.{refusal_number_of}
use Rattle.answers.specs.declared.refusal.Refusal.{Refusal}
use Rattle.answers.proofs.AnswerLaws.{outcome_done}
use Rattle.answers.proofs.RefusalLaws.{outcome_err}
use Rattle.std.specs.Prelude.{Ok, Err}
use Rattle.text.specs.Blocks.{joined, over}
use Rattle.text.proofs.BlocksLaws.{holds_over}
use Rattle.casemaster.specs.Master.{rows_of}
use Rattle.casemaster.specs.Refusals.{master_refusal}
use Rattle.casemaster.proofs.RefusalsLaws.{master_rows, master_sound}
use Rattle.casemaster.proofs.RowsLaws.{Fit}
use Rattle.collectionfile.specs.File.{line_count, lines_in}
use Rattle.posting.specs.Post.{PostCall, listed_numbers, rows_after, lent_to, post_run, refusal_of, post_outcome, posted_as, IsPosting}
use Rattle.posting.specs.Parts.{LinesDone}
use Rattle.posting.proofs.LineLaws.{fit_of}

-- ---- 3 and 4

module _ (limit : ℕ) (master : List ℕ) (rows : ℕ) (e : master_refusal limit master rows 0 ≡ 0) where
  pub rows_inside : rows * 200 ≤ length master
  rows_inside = omega (arith, master_rows limit master rows e)

  pub rows_fit : Fit (rows_of rows master)
  rows_fit = fit_of rows master rows_inside (master_sound limit master rows e)

-- ---- the outcome

module _ (c : PostCall) where
  pub post_refused : (r : Refusal) → refusal_number_of r ≡ refusal_of c → IsPosting c (posted_as (Err r) c.master c.lines)
  unfolding post_outcome
  post_refused r e = record { is = outcome_err (refusal_of c) (lent_to c) (post_run c) r e }

  pub post_done : (after list : List ℕ) (k : ℕ) → refusal_of c ≡ 0 → c.rows * 200 ≤ length c.master → length c.file / 240 - 1 ≤ length c.lines
      → LinesDone c.master c.rows c.file (length c.file / 240 - 1) c.lines after list k
      → IsPosting c (posted_as (Ok k) after list)
  unfolding post_outcome over lines_in line_count
  post_done after list k e r l w =
      let m : after ≡ over (joined (rows_after c)) c.master =
      holds_over 200 c.master after c.rows (rows_after c) (record { blocks_are = w.rows_are; rest_kept = w.rest_kept }) (omega (arith, w.master_length)) in
      let n : length (listed_numbers c) ≡ k =
      ap length (sym w.list_is) ∙ length-take-le k list (omega (arith, w.few, w.list_length)) in
      let o : list ≡ listed_numbers c ++ drop (length (listed_numbers c)) c.lines =
      sym (take-append-drop k list) ∙ rw (w.list_is, w.list_kept, n) in
      record { is = rw (m, o, ← n) (outcome_done (refusal_of c) (lent_to c) (post_run c) e) }
