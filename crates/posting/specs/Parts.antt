-- For the contracts of inner functions; no rule of the papers stands here.
-- What each part of the work leaves. Assumes nothing.
use Rattle.std.specs.Prelude.{ℕ, ◌*◌, ◌≤◌, ◌≡◌, List, Bool, true, false, cond, length, take, drop, Option, Some, None}
use Rattle.text.specs.Blocks.{blocks}
use Rattle.casemaster.specs.Master.{rows_of}
use Rattle.casemaster.specs.Search.{RowPut}
use Rattle.posting.specs.Posting.{is_posted_on, posted_row, is_posted_in, after_line, after_lines, listed}

-- one row through one line: the row where it is posted, else none
abbrev pub turn_of : List ℕ → List ℕ → Option (List ℕ)
turn_of line row = cond (is_posted_on line row) (Some (posted_row line row)) None

-- the row at place p through a line: put back where it is posted, else nothing is written
pub record IsPut (m : List ℕ) (p : ℕ) (line after : List ℕ) (r : Bool) : Type 0 where
  pub posted_is : r ≡ is_posted_on line (take 200 (drop (p * 200) m))
  pub put : r ≡ true → RowPut m p (posted_row line (take 200 (drop (p * 200) m))) after
  pub left : r ≡ false → after ≡ m

-- the master after a line
pub record LineDone (m : List ℕ) (n : ℕ) (line after : List ℕ) (r : Bool) : Type 0 where
  pub posted_is : r ≡ is_posted_in (rows_of n m) line
  pub rows_are : rows_of n after ≡ after_line (rows_of n m) line
  pub rest_kept : drop (n * 200) after ≡ drop (n * 200) m
  pub same_length : length after ≡ length m

-- the master and the list after all lines
pub record LinesDone (m : List ℕ) (n : ℕ) (file : List ℕ) (count : ℕ) (lines after lines_after : List ℕ) (k : ℕ) : Type 0 where
  pub rows_are : rows_of n after ≡ after_lines (rows_of n m) (blocks 240 count file)
  pub rest_kept : drop (n * 200) after ≡ drop (n * 200) m
  pub list_is : take k lines_after ≡ listed (rows_of n m) (blocks 240 count file)
  pub list_kept : drop k lines_after ≡ drop k lines
  pub few : k ≤ count
  pub master_length : length after ≡ length m
  pub list_length : length lines_after ≡ length lines
