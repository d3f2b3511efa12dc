-- Document 02, item 6: the refusals in order, and the outcome of the call, down to every byte lent. Assumes nothing.
use Rattle.std.specs.Prelude.{ℕ, ◌≡◌, List, length, Result}
use Rattle.answers.specs.Answer.{Answer, Outcome, Run, outcome_by}
use Rattle.answers.specs.Refusal.{answer_in}
use Rattle.answers.specs.declared.refusal.Refusal.{Refusal}
use Rattle.layout.specs.Limits.{max_rows}
use Rattle.text.specs.Blocks.{joined, over}
use Rattle.casemaster.specs.Master.{rows_of}
use Rattle.casemaster.specs.Refusals.{master_refusal}
use Rattle.collectionfile.specs.File.{lines_in, file_refusal}
use Rattle.posting.specs.Posting.{after_lines, listed}

-- all that is lent to a call
pub record PostCall : Type 0 where
  pub master : List ℕ
  pub rows : ℕ
  pub file : List ℕ
  pub lines : List ℕ
  -- the most rows and lines, which refusals 3 and 22 take; nothing else does
  pub limit : ℕ

-- ---- refused, in order

-- all follow 3 and 4
abbrev pub post_refusal : ℕ → List ℕ → ℕ → List ℕ → ℕ → ℕ
post_refusal limit master rows file room = master_refusal limit master rows (file_refusal limit file room)

abbrev pub refusal_of : PostCall → ℕ
refusal_of c = post_refusal c.limit c.master c.rows c.file (length c.lines)

-- ---- the outcome

-- the answer: how many lines are listed, or a refusal's number
abbrev pub post_answer : Result ℕ Refusal → Answer ℕ
post_answer r = answer_in (λ n. n) r

-- every byte and number lent that can be written
pub record PostBuffers : Type 0 where
  pub master : List ℕ
  pub lines : List ℕ

abbrev pub PostOutcome : Type 0
PostOutcome = Outcome ℕ PostBuffers

-- the rows at entry and after all lines, and the numbers listed
abbrev pub rows_before : PostCall → List (List ℕ)
rows_before c = rows_of c.rows c.master

abbrev pub rows_after : PostCall → List (List ℕ)
rows_after c = after_lines (rows_before c) (lines_in c.file)

abbrev pub listed_numbers : PostCall → List ℕ
listed_numbers c = listed (rows_before c) (lines_in c.file)

-- the rows and the list written, with what stood behind each kept
abbrev pub post_run : PostCall → Run ℕ PostBuffers
post_run c =
    record {
      result = length (listed_numbers c);
      buffers = record { master = over (joined (rows_after c)) c.master; lines = over (listed_numbers c) c.lines };
    }

abbrev pub lent_to : PostCall → PostBuffers
lent_to c = record { master = c.master; lines = c.lines }

unfoldable pub post_outcome : PostCall → PostOutcome
post_outcome c = outcome_by (refusal_of c) (lent_to c) (post_run c)

-- the call, from what is lent, with the limit that the code has, and the outcome from what is answered
abbrev pub post_call : List ℕ → ℕ → List ℕ → List ℕ → PostCall
post_call master rows file lines = record { master = master; rows = rows; file = file; lines = lines; limit = max_rows }

abbrev pub posted_as : Result ℕ Refusal → List ℕ → List ℕ → PostOutcome
posted_as answer master lines = record { answer = post_answer answer; buffers = record { master = master; lines = lines } }

-- what a call leaves: the promise of `post`
pub record IsPosting (c : PostCall) (o : PostOutcome) : Type 0 where
  pub is : o ≡ post_outcome c
