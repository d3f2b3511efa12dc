-- Document 02, item 6: a conversion, refused by 3 and 4 over the old row, writes 00 into a master. Assumes nothing.
use Rattle.std.specs.Prelude.{ℕ, ◌≡◌, List, map, Result}
use Rattle.answers.specs.Answer.{Answer, NoResult, Outcome, Run, outcome_by}
use Rattle.answers.specs.Refusal.{answer_in}
use Rattle.answers.specs.declared.refusal.Refusal.{Refusal}
use Rattle.text.specs.Blocks.{joined, over}
use Rattle.layout.specs.Limits.{max_rows}
use Rattle.casemaster.specs.Row.{with_zero_cents}
use Rattle.casemaster.specs.Master.{rows_of}
use Rattle.casemaster.specs.Refusals.{old_master_refusal}

-- all that is lent to a call
pub record ConvertCall : Type 0 where
  pub master : List ℕ
  pub rows : ℕ
  -- the most rows, which refusal 3 takes; nothing else does
  pub limit : ℕ

-- the call, from what is lent, with the limit that the code has
abbrev pub convert_call : List ℕ → ℕ → ConvertCall
convert_call master rows = record { master = master; rows = rows; limit = max_rows }

-- the answer: done, or a refusal's number
abbrev pub convert_answer : Result Unit Refusal → Answer NoResult
convert_answer r = answer_in (λ x. tt) r

-- the answer and the master
abbrev pub ConvertOutcome : Type 0
ConvertOutcome = Outcome NoResult (List ℕ)

abbrev pub added_as : Result Unit Refusal → List ℕ → ConvertOutcome
added_as answer master = record { answer = convert_answer answer; buffers = master }

-- every row, deleted ones too, and nothing behind the rows
abbrev pub convert_run : ConvertCall → Run NoResult (List ℕ)
convert_run c = record { result = tt; buffers = over (joined (map with_zero_cents (rows_of c.rows c.master))) c.master }

unfoldable pub convert_outcome : ConvertCall → ConvertOutcome
convert_outcome c = outcome_by (old_master_refusal c.limit c.master c.rows) c.master (convert_run c)

-- what a call leaves: the promise of `add_cents`
pub record AreCentsAdded (c : ConvertCall) (o : ConvertOutcome) : Type 0 where
  pub is : o ≡ convert_outcome c
