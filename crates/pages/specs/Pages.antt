-- Document 02, item 12: the pages of a master, and the outcome of the call, down to every byte lent. Assumes nothing.
use Rattle.std.specs.Prelude.{ℕ, zero, suc, ◌+◌, ◌*◌, ◌/◌, List, [], ◌∷◌, ◌++◌, map, ltb, length, take, drop, Result}
use Rattle.answers.specs.Answer.{refuse_if, Answer, Outcome, Run, outcome_by}
use Rattle.answers.specs.Refusal.{answer_in}
use Rattle.answers.specs.declared.refusal.Refusal.{Refusal}
use Rattle.text.specs.Blocks.{joined, over}
use Rattle.casemaster.specs.Row.{is_live}
use Rattle.casemaster.specs.Master.{rows_of, rows_that}
use Rattle.casemaster.specs.Refusals.{master_refusal}
use Rattle.pages.specs.Forms.{page_width, case_line, heading, foot}

-- ---- pages

-- the lines of the live rows in key order
unfoldable pub case_lines : List (List ℕ) → List (List ℕ)
case_lines rows = map case_line (rows_that is_live rows)

-- the lines of the first n pages, 58 on each while there are lines
unfoldable pub first_pages : ℕ → List (List ℕ) → List (List (List ℕ))
first_pages zero lines = []
first_pages (suc n) lines = take 58 lines ∷ first_pages n (drop 58 lines)

-- how many pages a number of lines takes: on the last page perhaps fewer than 58, never none
abbrev pub page_count : ℕ → ℕ
page_count lines = (lines + 57) / 58

-- the lines of each page
abbrev pub pages_of : List (List ℕ) → List (List (List ℕ))
pages_of lines = first_pages (page_count (length lines)) lines

-- a page: a heading, its lines, and a foot
abbrev pub page : ℕ → List (List ℕ) → List (List ℕ)
page number lines = heading number ∷ (lines ++ foot (length lines) ∷ [])

-- one page behind the other; page numbers rise by one
unfoldable pub printed_from : ℕ → List (List (List ℕ)) → List (List ℕ)
printed_from number [] = []
printed_from number (lines ∷ pages) = page number lines ++ printed_from (suc number) pages

-- page numbers begin at 000001
abbrev pub printed : List (List ℕ) → List (List ℕ)
printed rows = printed_from 1 (pages_of (case_lines rows))

-- ---- the call

-- refused, in order: 3; 4; 31, a buffer too short for the pages; the limit is that of 3, and nothing else takes it
unfoldable pub pages_refusal : ℕ → List ℕ → ℕ → List ℕ → ℕ
pages_refusal limit master rows out =
    master_refusal limit master rows (refuse_if (ltb (length out) (length (printed (rows_of rows master)) * page_width)) 31 0)

-- the answer: how many pages there are, or a refusal's number
abbrev pub pages_answer : Result ℕ Refusal → Answer ℕ
pages_answer r = answer_in (λ n. n) r

-- the answer and the buffer
abbrev pub PagesOutcome : Type 0
PagesOutcome = Outcome ℕ (List ℕ)

abbrev pub pages_as : Result ℕ Refusal → List ℕ → PagesOutcome
pages_as answer out = record { answer = pages_answer answer; buffers = out }

-- the pages at the front of the buffer; bytes behind them are kept
abbrev pub pages_run : List ℕ → ℕ → List ℕ → Run ℕ (List ℕ)
pages_run master rows out =
    record { result = length (pages_of (case_lines (rows_of rows master))); buffers = over (joined (printed (rows_of rows master))) out }

unfoldable pub pages_outcome : ℕ → List ℕ → ℕ → List ℕ → PagesOutcome
pages_outcome limit master rows out = outcome_by (pages_refusal limit master rows out) out (pages_run master rows out)
