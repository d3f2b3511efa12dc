-- The steps of one key put together, with its entry. Assumes nothing.
use Prim.Native.Nat.{ℕ, ◌+◌, ◌≤◌}
use mathlib.Core.Path.{◌≡◌, sym, subst}
use mathlib.Core.Bool.{Bool, cond}
use mathlib.Core.List.{List}
use mathlib.Core.Option.{Option}
use lib.ListN.{length}
use Rattle.keywalk.specs.Walking.{RowOfPut, Fixed, Stand, row_now, StaysBefore}
use Rattle.keywalk.proofs.WalkStepLaws as Step
use Rattle.keywalk.proofs.WalkStepLaws.{KeySteps}
use Rattle.journal.specs.Writing.{Wrote, key_bytes}
use Rattle.journalwalk.specs.JournalWalk.{KeyRoom, KeyJournaled}

module _ (f : Fixed) (s : Stand) (e passed : ℕ) (key m₁ : List ℕ) (held : Bool) (start row : Option (List ℕ)) (numbers' : List ℕ)
    (k : KeySteps f s e passed key m₁ held start row numbers') (wanted : Bool) (written : ℕ) (journal : List ℕ) where
  from_row : start ≡ row_now f s passed
  from_row = Step.start_is f s e passed key m₁ held start row numbers' k

  -- the entry has room
  pub entry_room : KeyRoom f s wanted written journal → written + length (key_bytes wanted (s.to + passed) start row) ≤ length journal
  entry_room h =
      subst (λ (x : Option (List ℕ)). written + length (key_bytes wanted (s.to + passed) x row) ≤ length journal) (sym from_row)
      (h e passed row numbers' (Step.key_worked f s e passed key m₁ held start row numbers' k))

  pub key_journaled : StaysBefore f s → (m₂ : List ℕ) (next : ℕ) → RowOfPut m₁ (s.to + passed) row m₂ next → (one : ℕ) → one ≡ cond held 1 0
      → (journal' : List ℕ) (written' : ℕ) → Wrote journal written (key_bytes wanted (s.to + passed) start row) journal' written'
      → KeyJournaled f s (record { position = e; from = s.from + passed + one; to = next; master = m₂; numbers = numbers' }) wanted journal written journal' written'
  unfolding Step.key_walked
  key_journaled stays m₂ next put one oi journal' written' w =
      record {
        walked = Step.key_walked f s e passed key m₁ held start row numbers' k stays m₂ next put one oi;
        wrote = subst (λ (x : Option (List ℕ)). Wrote journal written (key_bytes wanted (s.to + passed) x row) journal' written') from_row w;
      }
