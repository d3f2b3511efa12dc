-- Laws of the outcome of printing: each refusal, where those before it don't hold, and the call carried out. Assumes nothing.
use Prim.Native.Nat.{ℕ, ◌+◌, ◌*◌, ◌/◌, ◌≤◌, ◌<◌}
use mathlib.Core.Path.{◌≡◌, sym, ap, ◌∙◌}
use mathlib.Core.List.{List}
use native.Mathlib.Omega.{arith}
use lib.ListN.{length}
use borrow.Author.Tests.{lt-ltb, le-ltb}
use Rattle.answers.specs.Refusal.{refusal_number_of}
use Rattle.answers.specs.declared.refusal.Refusal.{Refusal}
use Rattle.answers.specs.declared.refusal.Refusal.TheVariants.{ShortPages}
use Rattle.answers.proofs.AnswerLaws.{outcome_done}
use Rattle.answers.proofs.RefusalLaws.{outcome_err}
use Rattle.std.specs.Prelude.{Ok, Err}
use Rattle.text.specs.Blocks.{joined, over, Holds}
use Rattle.text.proofs.BlocksLaws.{holds_over}
use Rattle.text.proofs.HoldsLaws.{holds_count}
use Rattle.casemaster.specs.Master.{rows_of}
use Rattle.casemaster.specs.Refusals.{master_refusal}
use Rattle.casemaster.proofs.RefusalsLaws.{master_passed, master_err}
use Rattle.pages.specs.Pages.{case_lines, page_count, pages_of, printed, pages_refusal, PagesOutcome, pages_as, pages_run, pages_outcome}
use Rattle.pages.specs.Steps.{going_on}
use Rattle.pages.proofs.PageLaws.{count_pages, printed-length, turned}

module _ (limit : ℕ) (master : List ℕ) (rows : ℕ) (out : List ℕ) where
  abbrev refusal : ℕ
  refusal = pages_refusal limit master rows out

  abbrev outcome : PagesOutcome
  outcome = pages_outcome limit master rows out

  abbrev lines : List (List ℕ)
  lines = case_lines (rows_of rows master)

  pages_refused : (r : Refusal) → refusal_number_of r ≡ refusal → pages_as (Err r) out ≡ outcome
  unfolding pages_outcome
  pages_refused = outcome_err refusal out (pages_run master rows out)

  pub pages_master : (r : Refusal) → refusal_number_of r ≡ master_refusal limit master rows 0 → pages_as (Err r) out ≡ outcome
  unfolding pages_refusal
  pages_master r e = pages_refused r (master_err limit master rows r e _)

  -- how many lines of every kind there are
  pub room_is : (live : ℕ) → live ≡ length lines → length (going_on 1 0 lines) ≡ live + 2 * ((live + 57) / 58)
  room_is live e = rw ((turned lines).fresh 1, e) (printed-length 1 lines)

  module _ (e : master_refusal limit master rows 0 ≡ 0) (live : ℕ) (c : live ≡ length lines) where
    printed_is : length (printed (rows_of rows master)) ≡ live + 2 * ((live + 57) / 58)
    printed_is = rw c (printed-length 1 lines)

    pub pages_31 : length out / 132 < live + 2 * ((live + 57) / 58) → pages_as (Err ShortPages) out ≡ outcome
    unfolding pages_refusal
    pages_31 l =
        let b = lt-ltb (length out) (length (printed (rows_of rows master)) * 132) (omega (arith, printed_is)) in
        pages_refused ShortPages (sym (master_passed limit master rows e _ ∙ rw b))

    pub pages_done : (after : List ℕ) (k : ℕ) → live + 2 * ((live + 57) / 58) ≤ length out / 132 → length after ≡ length out
        → Holds 132 out after k (going_on 1 0 lines) → pages_as (Ok ((live + 57) / 58)) after ≡ outcome
    unfolding pages_outcome pages_refusal
    pages_done after k l w h =
        let b = le-ltb (length out) (length (printed (rows_of rows master)) * 132) (omega (arith, printed_is)) in
        let p : refusal ≡ 0 = master_passed limit master rows e _ ∙ rw b in
        let n : length (pages_of lines) ≡ (live + 57) / 58 = count_pages (page_count (length lines)) lines ∙ rw c in
        let t : going_on 1 0 lines ≡ printed (rows_of rows master) = (turned lines).fresh 1 in
        let a : after ≡ over (joined (printed (rows_of rows master))) out =
        holds_over 132 out after k (going_on 1 0 lines) h (omega (arith, holds_count 132 h, room_is live c))
        ∙ ap (λ (z : List (List ℕ)). over (joined z) out) t in
        rw (← n, a) (outcome_done refusal out (pages_run master rows out) p)
