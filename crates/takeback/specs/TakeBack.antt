-- Document 02, item 8: taking a batch back. Assumes nothing.
use Rattle.std.specs.Prelude.{ℕ, List, Bool, not, Result}
use Rattle.std.proofs.Math.Option.{Option, none, some}
use Rattle.answers.specs.Answer.{refuse_if, Answer, Outcome, Run, outcome_by}
use Rattle.answers.specs.Refusal.{answer_in}
use Rattle.answers.specs.declared.refusal.Refusal.{Refusal}
use Rattle.text.specs.Blocks.{joined, over}
use Rattle.casemaster.specs.Master.{rows_of}
use Rattle.casemaster.specs.Refusals.{master_refusal}
use Rattle.journal.specs.Journal.{Journal, journal_in}
use Rattle.takeback.specs.Restored.{restored, can_take_back}

-- 26: a journal that isn't of this byte form, doesn't fit the master, has places out of strictly rising order or would leave an unsound master
unfoldable pub refusal26 : List ℕ → ℕ → List ℕ → Bool
refusal26 master rows journal = not (can_take_back (journal_in journal) (rows_of rows master))

-- 26 after 3 and 4; the limit is that of 3, and nothing else takes it
unfoldable pub take_back_refusal : ℕ → List ℕ → ℕ → List ℕ → ℕ
take_back_refusal limit master rows journal = master_refusal limit master rows (refuse_if (refusal26 master rows journal) 26 0)

-- the answer: the old row count, or a refusal's number
abbrev pub take_back_answer : Result ℕ Refusal → Answer ℕ
take_back_answer r = answer_in (λ n. n) r

-- the answer and the master
abbrev pub TakeBackOutcome : Type 0
TakeBackOutcome = Outcome ℕ (List ℕ)

abbrev pub taken_as : Result ℕ Refusal → List ℕ → TakeBackOutcome
taken_as answer master = record { answer = take_back_answer answer; buffers = master }

-- the old row count and rows; bytes past them are kept. Behind 26 there is a journal
abbrev pub take_back_run : Option Journal → List ℕ → ℕ → Run ℕ (List ℕ)
take_back_run none master rows = record { result = rows; buffers = master }
take_back_run (some j) master rows = record { result = j.before; buffers = over (joined (restored j (rows_of rows master))) master }

unfoldable pub take_back_outcome : ℕ → List ℕ → ℕ → List ℕ → TakeBackOutcome
take_back_outcome limit master rows journal =
    outcome_by (take_back_refusal limit master rows journal) master (take_back_run (journal_in journal) master rows)
