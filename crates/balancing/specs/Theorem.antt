-- Document 02, item 6: what holds of every posting that is carried out. The rows are read off the master that it leaves. Assumes nothing.
use Rattle.std.specs.Prelude.{ℕ, ◌+◌, ◌≡◌, List, true, length}
use Rattle.answers.specs.Answer.{is_carried_out}
use Rattle.casemaster.specs.Master.{rows_of, keys_of, are_sound_rows}
use Rattle.casemaster.specs.Rows.{row_with}
use Rattle.collectionfile.specs.File.{lines_in, line_count}
use Rattle.posting.specs.Posting.{after_lines, posted_lines}
use Rattle.balancing.specs.Under.{lines_under, posted_under, row_through, run_posted}
use Rattle.balancing.specs.Balances.{one_key, all_keys, balances, key_balance, Balanced}
use Rattle.posting.specs.Post.{PostCall, PostOutcome, rows_before, listed_numbers, IsPosting}

-- the rows that a call leaves
abbrev pub rows_after_posting : PostCall → PostOutcome → List (List ℕ)
rows_after_posting c o = rows_of c.rows o.buffers.master

-- the lines that it posts
abbrev pub posted : PostCall → List (List ℕ)
posted c = posted_lines (rows_before c) (lines_in c.file)

pub record Posts (c : PostCall) (o : PostOutcome) : Type 0 where
  -- the balance theorem, under each key and over the whole master
  pub each_key : (key : List ℕ) → Balanced (one_key key) (rows_before c) (rows_after_posting c o) (posted c)
  pub whole_master : Balanced all_keys (rows_before c) (rows_after_posting c o) (posted c)
  -- what stands under a key is the balance of its row
  pub one_before : (key : List ℕ) → balances (one_key key) (rows_before c) ≡ key_balance key (rows_before c)
  pub one_after : (key : List ℕ) → balances (one_key key) (rows_after_posting c o) ≡ key_balance key (rows_after_posting c o)
  -- no key appears or goes away, and the master stays sound
  pub keys_stay : keys_of (rows_after_posting c o) ≡ keys_of (rows_before c)
  pub rows_sound : are_sound_rows (rows_after_posting c o) ≡ true
  -- posted and listed lines together are as many as the file has; a line that is listed changes nothing: the posted ones alone leave the same rows
  pub all_told : length (posted c) + length (listed_numbers c) ≡ line_count c.file
  pub listed_idle : rows_after_posting c o ≡ after_lines (rows_before c) (posted c)
  -- under each key the row, and which of its lines are posted, are the one-key machine's
  pub row_run : (key : List ℕ) → row_with key (rows_after_posting c o) ≡ row_through (row_with key (rows_before c)) (lines_under key (lines_in c.file))
  pub posted_run : (key : List ℕ)
      → posted_under key (rows_before c) (lines_in c.file) ≡ run_posted (row_with key (rows_before c)) (lines_under key (lines_in c.file))

-- for every posting carried out, the balance theorem among it
abbrev pub EveryPosting : Type 0
EveryPosting = (c : PostCall) (o : PostOutcome) → IsPosting c o → is_carried_out o.answer ≡ true → Posts c o

-- the order of lines of different keys doesn't matter: two postings from the same rows, with the same lines in the same order under each key, leave
-- the same rows and post the same lines under each key
pub record SamePosting (g : PostCall) (o : PostOutcome) (h : PostCall) (p : PostOutcome) : Type 0 where
  pub rows : rows_after_posting g o ≡ rows_after_posting h p
  pub posted_same : (key : List ℕ)
      → posted_under key (rows_before g) (lines_in g.file) ≡ posted_under key (rows_before h) (lines_in h.file)

abbrev pub TwoPostings : Type 0
TwoPostings =
    (g h : PostCall) (o p : PostOutcome)
    → IsPosting g o
    → IsPosting h p
    → is_carried_out o.answer ≡ true
    → is_carried_out p.answer ≡ true
    → rows_before g ≡ rows_before h
    → ((key : List ℕ) → lines_under key (lines_in g.file) ≡ lines_under key (lines_in h.file))
    → SamePosting g o h p
