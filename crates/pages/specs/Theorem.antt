-- Document 02, item 12: joined, the lines of all pages are the live rows, each a single time; the pages are numbered, full but for the last,
-- and none where no row is live. Over whole calls and any limit; page numbers of six digits ask that the most rows take fewer than 1,000,000
-- pages. Assumes nothing.
use Rattle.std.specs.Prelude.{ℕ, suc, ◌+◌, ◌*◌, ◌^◌, ◌≤◌, ◌<◌, ◌≡◌, List, [], ◌∷◌, ◌++◌, length, take, drop, get_or}
use Rattle.answers.specs.Answer.{done}
use Rattle.text.specs.Blocks.{blocks}
use Rattle.text.specs.Fields.{columns, number}
use Rattle.casemaster.specs.Master.{rows_of}
use Rattle.pages.specs.Forms.{page_width, page_digits}
use Rattle.pages.specs.Pages.{case_lines, page_count, printed_from, PagesOutcome, pages_outcome}

-- the lines of all pages, joined
unfoldable pub all_lines : List (List (List ℕ)) → List (List ℕ)
all_lines [] = []
all_lines (lines ∷ parts) = lines ++ all_lines parts

-- what holds of the bytes that n pages are printed in
pub record ArePages (rows : List (List ℕ)) (n : ℕ) (out : List ℕ) : Type 0 where
  -- the lines of each page
  pub parts : List (List (List ℕ))
  pub count : length parts ≡ n
  -- the buffer has one page behind the other: a heading, the lines and a foot
  pub standing : blocks page_width (length (printed_from 1 parts)) out ≡ printed_from 1 parts
  -- joined, the lines of all pages are those of the live rows in key order, each once
  pub once : all_lines parts ≡ case_lines rows
  -- each page but the last has 58 lines
  pub full : (i : ℕ) → suc i < n → length (get_or parts i []) ≡ 58
  -- the last 1 to 58
  pub last : (i : ℕ) → suc i ≡ n → (1 ≤ length (get_or parts i [])) × (length (get_or parts i []) ≤ 58)
  -- pages of 60 lines each stand before a page, and it is numbered by its place, the first being 1
  pub numbered : (i : ℕ) → i < n → number (columns 7 (6 + page_digits) (take page_width (drop (i * 60 * page_width) out))) ≡ i + 1
  -- no live rows give none
  pub none_live : case_lines rows ≡ [] → n ≡ 0

-- of every call that is carried out; the pages of the most rows must have numbers of six digits
abbrev pub EveryPrinting : Type 0
EveryPrinting =
    (limit : ℕ) (master : List ℕ) (rows : ℕ) (out : List ℕ) (o : PagesOutcome) (n : ℕ)
    → page_count limit < 10 ^ page_digits
    → o ≡ pages_outcome limit master rows out
    → o.answer ≡ done n
    → ArePages (rows_of rows master) n o.buffers
