-- Document 02, item 8, as theorems over rows alone, over any limit. Assumes nothing.
use Rattle.std.specs.Prelude.{ℕ, ◌≡◌, true, List, [], ◌∷◌, length}
use Rattle.std.proofs.Math.Option.{none}
use Rattle.answers.specs.Answer.{done}
use Rattle.text.specs.Blocks.{joined, over}
use Rattle.text.specs.ByteOrder.{rising}
use Rattle.casemaster.specs.Master.{rows_of, keys_of, are_sound_rows}
use Rattle.casemaster.specs.Refusals.{master_refusal}
use Rattle.casemaster.specs.Rows.{row_with}
use Rattle.journal.specs.Journal.{journal_of, journal_bytes}
use Rattle.takeback.specs.TakeBack.{take_back_outcome}

-- each row is 200 bytes
abbrev pub AreWide : List (List ℕ) → Type 0
AreWide [] = Unit {0}
AreWide (row ∷ rows) = (length row ≡ 200) × AreWide rows

-- rows at the end that rise and under each key of a row at entry have one
pub record Follows (old new : List (List ℕ)) : Type 0 where
  pub old_rise : rising (keys_of old) ≡ true
  pub new_rise : rising (keys_of new) ≡ true
  pub stays : (key : List ℕ) → row_with key new ≡ none → row_with key old ≡ none

-- the rows at entry are sound and 200 bytes wide; the master that a batch left has `rows` rows, which 3 and 4 don't refuse
pub record IsLeftBy (limit : ℕ) (old : List (List ℕ)) (master : List ℕ) (rows : ℕ) : Type 0 where
  pub wide : AreWide old
  pub sound : are_sound_rows old ≡ true
  pub passed : master_refusal limit master rows 0 ≡ 0
  pub follows : Follows old (rows_of rows master)

-- taking back with the journal of the two lists of rows gives the old row count and rows; bytes past them are kept as the batch left them
abbrev pub TakesBack : Type 0
TakesBack =
    (limit : ℕ) (old : List (List ℕ)) (master : List ℕ) (rows : ℕ) → IsLeftBy limit old master rows
    → take_back_outcome limit master rows (journal_bytes (journal_of old (rows_of rows master)))
    ≡ record { answer = done (length old); buffers = over (joined old) master }
