-- For the contracts of inner functions; no rule of the papers stands here.
-- The walk over the keys beside the master's rows: the rows passed stand at the front, those to come from a later place up to the end.
-- Assumes nothing.
use Rattle.std.specs.Prelude.{ℕ, ◌+◌, ◌-◌, ◌*◌, ◌≤◌, ◌<◌, ◌≡◌, List, ◌++◌, Bool, true, false, not, cond, ◌&&◌, ltb, length, take, drop, get_or}
use Rattle.std.proofs.Math.Option.{Option}
use Rattle.text.specs.Options.{one_or_none}
use Rattle.text.specs.Fields.{same_bytes}
use Rattle.text.specs.Blocks.{blocks}
use Rattle.layout.specs.Locals.{is_local_list}
use Rattle.casemaster.specs.Master.{rows_of, row_in, are_sound_rows}
use Rattle.casemaster.specs.Search.{AreBelow}
use Rattle.layout.specs.Batch.{detail_count}
use Rattle.onecase.specs.Verdict.{Judgement, no_judgement}
use Rattle.keyorder.specs.Order.{key_of_rank, InKeyOrder}
use Rattle.keyorder.specs.Tagged.{rank_part, index_part, makes_from, Tagged, index_parts, record_in, key_in}
use Rattle.keyorder.specs.Runs.{IsOwnEnd, IsRun, any_from}
use Rattle.keywork.specs.Packed.{Packed}
use Rattle.keywork.specs.Worked.{RunWorked}
use Rattle.keywork.specs.KeyWork.{run_setting}
use Rattle.turns.specs.Turns.{final_rows, verdicts_on}
use Rattle.keywalk.specs.Walk.{keys_at, distinct, new_keys}
use Rattle.keywalk.specs.declared.counting.Count.{Count}
use Rattle.judging.specs.State.{row_if}
use Rattle.judging.specs.Names.{names_given}
use Rattle.judging.specs.Setting.{Setting}
use Rattle.turns.specs.Under.{details_under}
use Rattle.turns.specs.Settings.{Settings, settings_of}

-- the row at a place before the end has a key
abbrev pub is_row_of : List ℕ → ℕ → ℕ → List ℕ → Bool
is_row_of m p end key = ltb p end && same_bytes (take 12 (drop (p * 200) m)) key

-- that row, or none
abbrev pub row_of_key : List ℕ → ℕ → ℕ → List ℕ → Option (List ℕ)
row_of_key m p end key = row_if (is_row_of m p end key) (row_in m p)

-- the rows from a place up to the end
abbrev pub rows_from : ℕ → ℕ → List ℕ → List (List ℕ)
rows_from from end m = rows_of (end - from) (drop (from * 200) m)

-- the row of a state, if it holds one, at place p; the rows before it and the bytes from place next on are kept
pub record RowOfPut (before : List ℕ) (p : ℕ) (row : Option (List ℕ)) (after : List ℕ) (next : ℕ) : Type 0 where
  pub next_is : next ≡ p + length (one_or_none row)
  pub rows_are : rows_of next after ≡ rows_of p before ++ one_or_none row
  pub rest_kept : drop (next * 200) after ≡ drop (next * 200) before

-- d details judged and in key order, each with its number, those of own keys first
pub record OrderReady (state : List ℕ) (year : ℕ) (list batch : List ℕ) (d own : ℕ) (numbers : List ℕ) : Type 0 where
  pub recorded : d * 245 ≤ length batch
  pub numbered : d ≤ length numbers
  pub in_order : InKeyOrder state (blocks 245 d batch) (index_parts d numbers)
  pub tags : (q : ℕ) → q < d → Tagged state year list (index_part (get_or numbers q 0)) (record_in batch numbers q) (get_or numbers q 0)
  pub own_end : IsOwnEnd d numbers own

-- it holds for every batch and in every setting in which its details are so
abbrev pub UnderOrder : List ℕ → ℕ → List ℕ → (List ℕ → ℕ → List ℕ → Type 0) → Type 0
UnderOrder state own numbers holds =
    (batch : List ℕ) (year : ℕ) (list : List ℕ) → OrderReady state year list batch (detail_count batch) own numbers → holds batch year list

-- the key at position q of the key order, by its rank
abbrev pub rank_key : List ℕ → List ℕ → ℕ → List ℕ
rank_key state numbers q = key_of_rank state (rank_part (get_or numbers q 0))

-- what stays the same while the keys are worked
pub record Fixed : Type 0 where
  pub settings : Settings
  pub batch : List ℕ
  -- how many details there are, and how many of them are of own keys: the first in key order
  pub count : ℕ
  pub own : ℕ
  -- the place behind the last row
  pub end : ℕ

abbrev pub fixed_of : List ℕ → ℕ → List ℕ → List ℕ → ℕ → ℕ → Fixed
fixed_of state year list batch own end =
    record {
      settings = settings_of state year list (blocks 245 (detail_count batch) batch);
      batch = batch;
      count = detail_count batch;
      own = own;
      end = end;
    }

-- how far the walk has come: the position in the key order, the first row not yet passed, the place that the next row goes to, the master's
-- bytes and the numbers of the verdict list
pub record Stand : Type 0 where
  pub position : ℕ
  pub from : ℕ
  pub to : ℕ
  pub master : List ℕ
  pub numbers : List ℕ

-- where it starts
abbrev pub start_of : ℕ → List ℕ → List ℕ → Stand
start_of from master numbers = record { position = 0; from = from; to = 0; master = master; numbers = numbers }

-- the keys of the details of own keys, in key order
abbrev pub own_keys : Fixed → List ℕ → List (List ℕ)
own_keys f numbers = keys_at (blocks 245 f.count f.batch) (take f.own (index_parts f.count numbers))

-- how many of them, each counted once, are new beside some rows
abbrev pub new_own_keys : Fixed → List ℕ → List (List ℕ) → ℕ
new_own_keys f numbers rows = new_keys f.settings (blocks 245 f.count f.batch) (distinct (own_keys f numbers)) rows

-- one of the details at positions p up to e makes a row where there is none
abbrev pub run_makes : List ℕ → ℕ → ℕ → Bool
run_makes numbers p e = any_from makes_from numbers p (e - p)

-- one key counted: where one of its details makes a row, the rows below it are passed, and there is one new row more if it has none
pub record KeyCounted (state : List ℕ) (own end : ℕ) (m numbers : List ℕ) (s s' : Count) : Type 0 where
  pub passed : ℕ
  pub ended : IsRun numbers s.position own s'.position
  pub below : run_makes numbers s.position s'.position ≡ true → AreBelow m s.from end (rank_key state numbers s.position) passed
  pub idle : run_makes numbers s.position s'.position ≡ false → passed ≡ 0
  pub from_is : s'.from ≡ s.from + passed
  pub new_is : s'.new
      ≡ s.new + cond (run_makes numbers s.position s'.position && not (is_row_of m (s.from + passed) end (rank_key state numbers s.position))) 1 0

-- the key at the position
abbrev pub key_now : Fixed → Stand → List ℕ
key_now f s = key_in f.batch s.numbers s.position

-- it has a row behind the rows passed
abbrev pub has_row : Fixed → Stand → ℕ → Bool
has_row f s passed = is_row_of s.master (s.from + passed) f.end (key_now f s)

-- that row, or none
abbrev pub row_now : Fixed → Stand → ℕ → Option (List ℕ)
row_now f s passed = row_of_key s.master (s.from + passed) f.end (key_now f s)

-- the setting of the work on the key at the position, whose details end at e: the names given are those that its details give
abbrev pub setting_now : Fixed → Stand → ℕ → Setting
setting_now f s e = run_setting f.settings.state f.settings.year f.settings.list f.batch s.numbers s.position e

-- the work on the key at the position: its details end at e, the rows passed are those below it, and its details leave a row or none
pub record KeyWorked (f : Fixed) (s : Stand) (e passed : ℕ) (row : Option (List ℕ)) (numbers' : List ℕ) : Type 0 where
  pub ended : IsRun s.numbers s.position f.own e
  pub below : AreBelow s.master s.from f.end (key_now f s) passed
  pub run : RunWorked (setting_now f s e) f.batch s.position e (row_now f s passed) row s.numbers numbers'

-- one key walked: the rows below it passed, its details worked, its row, if it has one then, put in behind them
pub record KeyWalked (f : Fixed) (s s' : Stand) : Type 0 where
  pub passed : ℕ
  pub row : Option (List ℕ)
  pub worked : KeyWorked f s s'.position passed row s'.numbers
  pub from_is : s'.from ≡ s.from + passed + cond (has_row f s passed) 1 0
  pub to_is : s'.to ≡ s.to + passed + length (one_or_none row)
  pub rows_are : rows_of s'.to s'.master
      ≡ (rows_of s.to s.master ++ rows_of passed (drop (s.from * 200) s.master)) ++ one_or_none row
  pub rest_kept : drop (s'.from * 200) s'.master ≡ drop (s'.from * 200) s.master

-- the row that the key's details leave is never put on a row to come
abbrev pub StaysBefore : Fixed → Stand → Type 0
StaysBefore f s =
    (e passed : ℕ) (row : Option (List ℕ)) (numbers' : List ℕ) → KeyWorked f s e passed row numbers'
    → s.to + length (one_or_none row) ≤ s.from + cond (has_row f s passed) 1 0

-- what the walk is given: all details judged and in key order, the rows from a place on, and before them space for the new ones
pub record WalkReady (f : Fixed) (s : Stand) : Type 0 where
  pub listed : is_local_list f.settings.list ≡ true
  pub ordered : OrderReady f.settings.state f.settings.year f.settings.list f.batch f.count f.own s.numbers
  pub given : (key : List ℕ) → f.settings.names key ≡ names_given f.settings.state (details_under key (blocks 245 f.count f.batch))
  pub within : s.from ≤ f.end
  pub rows_in : f.end * 200 ≤ length s.master
  pub sound : are_sound_rows (rows_from s.from f.end s.master) ≡ true
  pub room : s.from ≡ new_own_keys f s.numbers (rows_from s.from f.end s.master)

-- the index of the detail at position q of the key order
abbrev pub index_at : Fixed → Stand → ℕ → ℕ
index_at f s q = get_or (index_parts f.count s.numbers) q 0

-- its verdict, on the rows that the walk starts from
abbrev pub verdict_at : Fixed → Stand → ℕ → Judgement
verdict_at f s q =
    get_or (verdicts_on f.settings (rows_from s.from f.end s.master) (blocks 245 f.count f.batch)) (index_at f s q) no_judgement

-- what it leaves: the rows after all details, and the verdict of each detail of an own key below its index, at its own position
pub record Walked (f : Fixed) (s : Stand) (master' numbers' : List ℕ) : Type 0 where
  pub rows_are : rows_of f.end master'
      ≡ final_rows f.settings (rows_from s.from f.end s.master) (blocks 245 f.count f.batch)
  pub rows_kept : drop (f.end * 200) master' ≡ drop (f.end * 200) s.master
  pub verdicts : (q : ℕ) → q < f.own → Packed (get_or numbers' q 0) (index_at f s q) (verdict_at f s q)
  pub behind : (q : ℕ) → f.own ≤ q → get_or numbers' q 0 ≡ get_or s.numbers q 0
  pub width : length numbers' ≡ length s.numbers
