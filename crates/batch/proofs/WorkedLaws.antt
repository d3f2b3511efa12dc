-- A call that no refusal stops: each part of the work leaves what the next is given, and the three make what all details leave. Assumes
-- nothing.
use Prim.Native.Nat.{ℕ, ◌+◌, ◌≤◌}
use mathlib.Core.Path.{◌≡◌, ap, ◌∙◌, subst}
use mathlib.Core.Bool.{Bool, true}
use mathlib.Core.List.{List}
use native.Mathlib.Omega.{arith}
use lib.ListN.{length}
use Rattle.text.specs.Blocks.{blocks}
use Rattle.text.proofs.BlocksLaws.{length-blocks}
use Rattle.text.proofs.WidthLaws.{blocks_wide}
use Rattle.layout.specs.Limits.{max_rows}
use Rattle.layout.proofs.LimitsLaws.{few_details, few_groups}
use Rattle.layout.specs.Batch.{detail_count, details_of, submitting_state}
use Rattle.batchfile.proofs.PassesLaws.{state_two}
use Rattle.casemaster.specs.Master.{rows_of}
use Rattle.casemaster.proofs.RowsLaws.{Fit}
use Rattle.journal.specs.Space.{journal_space}
use Rattle.keywalk.specs.Walking.{fixed_of, new_own_keys}
use Rattle.keywalk.proofs.WorkLaws.{new_few, alone_there}
use Rattle.rejectfile.specs.Tally.{AtMost}
use Rattle.rejectfile.specs.declared.verdicts.Progress.{Progress}
use Rattle.turns.specs.Adds.{adds_without_row}
use Rattle.turns.specs.Settings.{settings_of}
use Rattle.batch.specs.Call.{Call}
use Rattle.batch.specs.Journaling.{WorkJournaled}
use Rattle.batch.specs.Parts.{ArrangeReady, DetailsArranged, MoveReady, RowsMoved, NoteReady, VerdictsNoted}
use Rattle.batch.proofs.KnownLaws.{Known}

module _ (c : Call) (k : Known c) (limit_is : c.limit ≡ max_rows) where
  abbrev d : ℕ
  d = detail_count c.batch

  abbrev details : List (List ℕ)
  details = blocks 245 d c.batch

  abbrev rows : List (List ℕ)
  rows = rows_of c.rows c.master

  pub arrange_ready : (state : List ℕ) → state ≡ submitting_state c.batch → ArrangeReady c.master c.rows c.batch state c.verdicts
  arrange_ready state e =
      record {
        rows_in = k.rows_in;
        sound = k.sound;
        batch_in = k.batch_in;
        few = omega (arith, k.batch_limit, limit_is, few_details);
        two = ap length e ∙ state_two c.limit c.batch k.batch_passed;
        slots = k.slots;
      }

  module _ (state : List ℕ) (own new : ℕ) (numbers : List ℕ)
      (a : DetailsArranged (fixed_of state c.year c.locals c.batch own c.rows) c.master c.verdicts numbers new) where
    -- the rows that are added are at most the A records without a row
    few : new ≤ adds_without_row rows (details_of c.batch)
    unfolding details_of
    few =
        let fit : Fit rows = record { wide = blocks_wide 200 c.rows c.master k.rows_in; sound = k.sound } in
        let l : new_own_keys (fixed_of state c.year c.locals c.batch own c.rows) numbers rows ≤ adds_without_row rows details =
        new_few (settings_of state c.year c.locals details) a.ordered fit k.list in
        omega (arith, a.new_is, l)

    pub move_ready : (wanted : Bool) (journal : List ℕ) → (wanted ≡ true → journal_space d ≤ length journal)
        → MoveReady (fixed_of state c.year c.locals c.batch own (c.rows + new)) c.master c.rows numbers new wanted journal
    move_ready wanted journal space =
        record {
          listed = k.list;
          ordered = a.ordered;
          sound = k.sound;
          new_is = a.new_is;
          rows_in = omega (arith, few, k.room);
          few = omega (arith, few, k.room_limit, limit_is, few_groups);
          space = space;
        }

    module _ (end : ℕ) (wanted : Bool) (journal master₁ numbers₁ journal₁ : List ℕ) (written : ℕ)
        (m : RowsMoved (fixed_of state c.year c.locals c.batch own end) c.master c.rows numbers wanted journal master₁ numbers₁ journal₁ written) where
      pub note_ready : NoteReady (fixed_of state c.year c.locals c.batch own end) numbers₁ c.rejects
      note_ready =
          let o = m.own_worked in
          let fit : Fit rows = record { wide = blocks_wide 200 c.rows c.master k.rows_in; sound = k.sound } in
          let t = alone_there (settings_of state c.year c.locals details) o.ordered fit k.list numbers₁ o.width o.verdicts o.behind in
          let b = k.batch_passed in
          record { own_in = t.0; slots = t.1; there = t.2; batch_in = k.batch_in; totals = b.totals; counts = b.counts; space = k.space }

      pub all_worked : state ≡ submitting_state c.batch → (verdicts₂ rejects₂ : List ℕ) (p : Progress)
          → VerdictsNoted (fixed_of state c.year c.locals c.batch own end) numbers₁ c.rejects verdicts₂ rejects₂ p
          → WorkJournaled c wanted journal master₁ verdicts₂ rejects₂ p journal₁ written
      unfolding details_of
      all_worked se verdicts₂ rejects₂ p v =
          let w = v.written c.master c.rows numbers m.own_worked in
          let ne = v.rows_is in
          let e : length details ≡ d = length-blocks 245 d c.batch in
          record {
            worked =
                record {
                  rows_are = rw (ne, m.rows_are, se);
                  rows_in = rw ne m.rows_in;
                  rows_kept = rw ne m.rows_kept;
                  numbers_are = rw (e, se) at w.numbers_are;
                  numbers_kept = (rw e at w.numbers_kept) ∙ a.kept;
                  rejects_are = rw se at w.rejects_are;
                  rejects_few = omega (arith, w.rejects_few, e);
                  rejects_kept = w.rejects_kept;
                  counts_are = rw se at w.counts_are;
                  counted = subst (λ (z : ℕ). AtMost z p.tally) e w.counted;
                };
            wrote = rw ne m.wrote;
          }
