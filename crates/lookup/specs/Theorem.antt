-- Document 02, item 9: the answers equal those of single look-ups, and the comparisons are at most rows plus keys. Over whole calls and any
-- limit; the answer for a key without a row, 4,294,967,295, asks that the limit is below it. Assumes nothing.
use Rattle.std.specs.Prelude.{ℕ, ◌+◌, ◌/◌, ◌≤◌, ◌<◌, ◌≡◌, List, map, cond, eqb, length, take}
use Rattle.answers.specs.Answer.{Answer, refused, done}
use Rattle.lookup.specs.Find.{find_answer}
use Rattle.lookup.specs.Many.{keys_in, no_place, ManyOutcome, many_outcome}

-- what an answer says: that a look-up is refused by 15, or its place
abbrev pub found_as : ℕ → Answer ℕ
found_as answer = cond (eqb answer no_place) (refused 15) (done answer)

-- key by key, the answers are what single look-ups give; the comparisons are at most rows plus keys
pub record AreFound (limit : ℕ) (master : List ℕ) (rows : ℕ) (keys places : List ℕ) (comparisons : ℕ) : Type 0 where
  pub each : map found_as (take (length keys / 12) places) ≡ map (find_answer limit master rows) (keys_in keys)
  pub few : comparisons ≤ rows + length keys / 12

-- of every call that is carried out; the limit must be below 4,294,967,295, so that no place is that answer
abbrev pub EveryLookup : Type 0
EveryLookup =
    (limit : ℕ) (master : List ℕ) (rows : ℕ) (keys places : List ℕ) (o : ManyOutcome) (comparisons : ℕ)
    → limit < no_place
    → o ≡ many_outcome limit master rows keys places
    → o.answer ≡ done comparisons
    → AreFound limit master rows keys o.buffers comparisons
