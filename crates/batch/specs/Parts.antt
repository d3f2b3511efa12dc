-- For the contracts of inner functions; no rule of the papers stands here.
-- The work on a batch in three parts: its details arranged, the rows moved, the verdicts noted. What stays the same is `Fixed` of the walk;
-- its end is the place behind the last row, which is that of the rows at entry in arranging, and of all rows in the other two. Assumes
-- nothing.
use Rattle.std.specs.Prelude.{ℕ, ◌+◌, ◌*◌, ◌^◌, ◌≤◌, ◌<◌, ◌≡◌, Bool, true, List, length, drop, get_or}
use Rattle.text.specs.Blocks.{blocks}
use Rattle.layout.specs.Locals.{is_local_list}
use Rattle.layout.specs.Batch.{detail_count, details_of, control_of}
use Rattle.batchfile.specs.Totals.{has_totals, are_counts_right}
use Rattle.casemaster.specs.Master.{rows_of, are_sound_rows}
use Rattle.onecase.specs.Verdict.{no_judgement}
use Rattle.keyorder.specs.Tagged.{index_part, index_parts}
use Rattle.keywork.specs.Packed.{Packed}
use Rattle.turns.specs.Turns.{final_rows, verdicts_on}
use Rattle.keywalk.specs.Walking.{OrderReady, Fixed, new_own_keys}
use Rattle.journal.specs.Space.{journal_space}
use Rattle.journal.specs.Writing.{Wrote}
use Rattle.rejectfile.specs.Written.{VerdictsWritten}
use Rattle.rejectfile.specs.declared.verdicts.Progress.{Progress}
use Rattle.batch.specs.Journaling.{whole_journal}

-- the details, in batch order
abbrev pub details_in : Fixed → List (List ℕ)
details_in f = blocks 245 f.count f.batch

-- they are in key order
abbrev pub InOrder : Fixed → List ℕ → Type 0
InOrder f numbers = OrderReady f.settings.state f.settings.year f.settings.list f.batch f.count f.own numbers

-- what arranging is given: sound rows, details and their control record, a state's two letters, and a place for the number of each detail
pub record ArrangeReady (master : List ℕ) (n : ℕ) (batch state numbers : List ℕ) : Type 0 where
  pub rows_in : n * 200 ≤ length master
  pub sound : are_sound_rows (rows_of n master) ≡ true
  pub batch_in : detail_count batch * 245 + 245 ≤ length batch
  pub few : detail_count batch ≤ 2 ^ 24
  pub two : length state ≡ 2
  pub slots : detail_count batch ≤ length numbers

-- what it leaves: the details in key order, and how many rows they add; the numbers behind theirs are kept
pub record DetailsArranged (f : Fixed) (master numbers numbers' : List ℕ) (new : ℕ) : Type 0 where
  pub ordered : InOrder f numbers'
  pub new_is : new ≡ new_own_keys f numbers' (rows_of f.end master)
  pub kept : drop f.count numbers' ≡ drop f.count numbers

-- what moving is given: the details in key order, n sound rows, space for the rows that are added, and for the journal where one is wanted
pub record MoveReady (f : Fixed) (master : List ℕ) (n : ℕ) (numbers : List ℕ) (new : ℕ) (wanted : Bool) (journal : List ℕ) : Type 0 where
  pub listed : is_local_list f.settings.list ≡ true
  pub ordered : InOrder f numbers
  pub sound : are_sound_rows (rows_of n master) ≡ true
  pub new_is : new ≡ new_own_keys f numbers (rows_of n master)
  pub rows_in : f.end * 200 ≤ length master
  pub few : f.end < 128 ^ 4
  pub space : wanted ≡ true → journal_space f.count ≤ length journal

-- the details of own keys worked, on n rows of a master and from numbers in key order: each verdict below its index at its own position; the
-- numbers behind are as they were
pub record OwnWorked (f : Fixed) (master : List ℕ) (n : ℕ) (sorted numbers : List ℕ) : Type 0 where
  pub listed : is_local_list f.settings.list ≡ true
  pub ordered : InOrder f sorted
  pub rows_in : n * 200 ≤ length master
  pub sound : are_sound_rows (rows_of n master) ≡ true
  pub verdicts : (q : ℕ) → q < f.own
      → Packed (get_or numbers q 0) (get_or (index_parts f.count sorted) q 0)
      (get_or (verdicts_on f.settings (rows_of n master) (details_in f)) (get_or (index_parts f.count sorted) q 0) no_judgement)
  pub behind : (q : ℕ) → f.own ≤ q → get_or numbers q 0 ≡ get_or sorted q 0
  pub width : length numbers ≡ length sorted

-- what it leaves: the rows after all details, the details of own keys worked, and the journal of it where one is wanted
pub record RowsMoved (f : Fixed) (master : List ℕ) (n : ℕ) (numbers : List ℕ) (wanted : Bool) (journal : List ℕ)
    (master' numbers' journal' : List ℕ) (written : ℕ) : Type 0 where
  pub rows_are : rows_of f.end master' ≡ final_rows f.settings (rows_of n master) (details_in f)
  pub rows_in : f.end * 200 ≤ length master'
  pub rows_kept : drop (f.end * 200) master' ≡ drop (f.end * 200) master
  pub own_worked : OwnWorked f master n numbers numbers'
  pub wrote : Wrote journal 0 (whole_journal wanted (rows_of n master) (rows_of f.end master')) journal' written

-- what noting is given: records for the numbers behind those of own keys, a control record whose counts are right, and space
pub record NoteReady (f : Fixed) (numbers rejects : List ℕ) : Type 0 where
  pub own_in : f.own ≤ f.count
  pub slots : f.count ≤ length numbers
  pub there : (q : ℕ) → f.own ≤ q → q < f.count → index_part (get_or numbers q 0) * 245 + 245 ≤ length f.batch
  pub batch_in : f.count * 245 + 245 ≤ length f.batch
  pub totals : has_totals (control_of f.batch) ≡ true
  pub counts : are_counts_right (control_of f.batch) (details_of f.batch) ≡ true
  pub space : (f.count + 1) * 245 ≤ length rejects

-- what it leaves, on whatever rows the details of own keys were worked: all verdicts written, from the numbers as they were in key order
pub record VerdictsNoted (f : Fixed) (numbers rejects numbers' rejects' : List ℕ) (p : Progress) : Type 0 where
  pub rows_is : p.rows ≡ f.end
  pub written : (master : List ℕ) (n : ℕ) (sorted : List ℕ) → OwnWorked f master n sorted numbers
      → VerdictsWritten (details_in f) (verdicts_on f.settings (rows_of n master) (details_in f)) sorted rejects numbers' rejects' p.rejects p.tally
