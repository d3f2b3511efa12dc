-- Details judged alone, numbers put back and verdicts written are verdicts noted. Assumes nothing.
use Prim.Native.Nat.{ℕ}
use mathlib.Core.Path.{◌≡◌, ◌∙◌}
use mathlib.Core.List.{List}
use lib.ListN.{length}
use Rattle.text.specs.Blocks.{blocks}
use Rattle.text.proofs.BlocksLaws.{length-blocks}
use Rattle.text.proofs.WidthLaws.{blocks_wide}
use Rattle.layout.specs.Batch.{detail_count}
use Rattle.casemaster.specs.Master.{rows_of}
use Rattle.casemaster.proofs.RowsLaws.{Fit}
use Rattle.onecase.specs.Verdict.{Judgement}
use Rattle.keywork.specs.Packed.{HoldsVerdicts}
use Rattle.keywork.specs.Worked.{PutBack, UnderAlone, AloneWorked}
use Rattle.turns.specs.Settings.{settings_of}
use Rattle.turns.specs.Turns.{verdicts_on}
use Rattle.keywalk.specs.Walking.{fixed_of}
use Rattle.keywalk.proofs.WorkLaws.{all_noted, numbers-behind}
use Rattle.rejectfile.specs.Written.{VerdictsWritten}
use Rattle.rejectfile.specs.declared.verdicts.Progress.{Progress}
use Rattle.batch.specs.Parts.{OwnWorked, VerdictsNoted}

module _ (state : List ℕ) (year : ℕ) (list batch : List ℕ) (own rows : ℕ) (numbers rejects numbers₁ numbers₂ : List ℕ)
    (judged : UnderAlone state year list batch numbers own (detail_count batch) (λ s. AloneWorked s batch own (detail_count batch) numbers numbers₁))
    (back : PutBack (detail_count batch) numbers₁ numbers₂) (numbers₃ rejects₃ : List ℕ) (p : Progress) (e : p.rows ≡ rows)
    (w : (verdicts : List Judgement) → HoldsVerdicts (detail_count batch) numbers₂ verdicts
    → VerdictsWritten (blocks 245 (detail_count batch) batch) verdicts numbers₂ rejects numbers₃ rejects₃ p.rejects p.tally) where
  abbrev details : List (List ℕ)
  details = blocks 245 (detail_count batch) batch

  written : (master : List ℕ) (n : ℕ) (sorted : List ℕ) → OwnWorked (fixed_of state year list batch own rows) master n sorted numbers
      → VerdictsWritten details (verdicts_on (settings_of state year list details) (rows_of n master) details) sorted rejects numbers₃ rejects₃ p.rejects p.tally
  written master n sorted o =
      let settings = settings_of state year list details in
      let fit : Fit (rows_of n master) = record { wide = blocks_wide 200 n master o.rows_in; sound = o.sound } in
      let count : length details ≡ detail_count batch = length-blocks 245 (detail_count batch) batch in
      let x = w _ (all_noted settings o.ordered fit o.listed numbers o.width o.verdicts o.behind numbers₁ numbers₂ judged back) in
      let b = numbers-behind settings o.ordered fit o.listed numbers o.width o.verdicts o.behind numbers₁ numbers₂ judged back in
      record {
        numbers_are = x.numbers_are;
        numbers_kept = x.numbers_kept ∙ rw count b;
        rejects_are = x.rejects_are;
        rejects_few = x.rejects_few;
        rejects_kept = x.rejects_kept;
        counts_are = x.counts_are;
        counted = x.counted;
      }

  pub noted : VerdictsNoted (fixed_of state year list batch own rows) numbers rejects numbers₃ rejects₃ p
  noted = record { rows_is = e; written = λ master n sorted o. written master n sorted o }
