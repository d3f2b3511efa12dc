-- For the contracts of inner functions; no rule of the papers stands here.
-- The numbers of one key's details marked by name. Assumes nothing.
use Rattle.std.specs.Prelude.{ℕ, ◌+◌, ◌-◌, ◌*◌, ◌/◌, ◌%◌, ◌^◌, ◌≤◌, ◌<◌, ◌≡◌, List, map, Bool, false, cond, ◌⊎◌, length, get_or, take, drop}
use Rattle.text.specs.Fields.{columns}
use Rattle.layout.specs.Batch.{record_at}
use Rattle.judging.specs.Errors.{is_given}
use Rattle.judging.specs.Names.{gives_name, names_given}
use Rattle.keyorder.specs.Tagged.{rank_part, index_part, flag_gives, flag_given, flag_local, flag_wrong, record_of, record_in}
use Rattle.keyorder.specs.Runs.{any_from}

-- the name of the record at an index
abbrev pub name_at : List ℕ → ℕ → List ℕ
name_at batch i = columns 30 33 (record_at batch i)

-- what stands below the rank, without the mark
abbrev pub rest_part : ℕ → ℕ
rest_part n = n / 2 % 2 ^ 31

-- each number holds the index of a record that is there, and says whether it gives its name
pub record HoldRecords (state batch numbers : List ℕ) : Type 0 where
  pub there : (q : ℕ) → q < length numbers → index_part (get_or numbers q 0) * 245 + 245 ≤ length batch
  pub gives : (q : ℕ) → q < length numbers → flag_gives (get_or numbers q 0) ≡ gives_name state (record_of batch (get_or numbers q 0))

-- the names that the details of some numbers give
abbrev pub names_of : List ℕ → List ℕ → List ℕ → List (List ℕ)
names_of state batch numbers = names_given state (map (record_of batch) numbers)

-- the name of a detail is among those that the details of its key give
abbrev pub is_matched : List ℕ → List ℕ → List ℕ → ℕ → Bool
is_matched state batch numbers n = is_given (names_of state batch numbers) (record_of batch n)

-- a detail's number, with one more where its name is
abbrev pub marked : List ℕ → List ℕ → List ℕ → ℕ → ℕ
marked state batch numbers n = n + cond (is_matched state batch numbers n) 1 0

-- the numbers are those of details of one rank in batch order, none of them marked
pub record RunDetails (state batch : List ℕ) (rank : ℕ) (numbers : List ℕ) : Type 0 where
  pub alone : (q : ℕ) → q < length numbers → get_or numbers q 0 ≡ rank * 2 ^ 32 + rest_part (get_or numbers q 0) * 2
  pub recorded : HoldRecords state batch numbers
  pub rising : (q r : ℕ) → q < r → r < length numbers → index_part (get_or numbers q 0) < index_part (get_or numbers r 0)

-- ---- a run at some positions

-- the numbers at positions p up to e
abbrev pub part : ℕ → ℕ → List ℕ → List ℕ
part p e numbers = take (e - p) (drop p numbers)

-- the numbers at positions p up to e are those of details of one rank in batch order, none of them marked; gives says whether one of them
-- gives its name
pub record RunReady (state batch numbers : List ℕ) (p e : ℕ) (gives : Bool) : Type 0 where
  pub later : p < e
  pub within : e ≤ length numbers
  pub there : (q : ℕ) → p ≤ q → q < e → index_part (get_or numbers q 0) * 245 + 245 ≤ length batch
  pub same : (q : ℕ) → p ≤ q → q < e → rank_part (get_or numbers q 0) ≡ rank_part (get_or numbers p 0)
  pub low : rank_part (get_or numbers p 0) ≤ 2 ^ 31
  pub unmarked : (q : ℕ) → p ≤ q → q < e → flag_given (get_or numbers q 0) ≡ false
  pub givers : (q : ℕ) → p ≤ q → q < e → flag_gives (get_or numbers q 0) ≡ gives_name state (record_in batch numbers q)
  pub rising : (q r : ℕ) → p ≤ q → q < r → r < e → index_part (get_or numbers q 0) < index_part (get_or numbers r 0)
  pub gives_is : gives ≡ any_from flag_gives numbers p (e - p)

-- the details at positions p up to e are marked where their names are among those that one of them gives; nothing else is changed
pub record RunMarked (state batch : List ℕ) (p e : ℕ) (before after : List ℕ) : Type 0 where
  pub width : length after ≡ length before
  pub outside : (q : ℕ) → (q < p) ⊎ (e ≤ q) → get_or after q 0 ≡ get_or before q 0
  pub index : (q : ℕ) → index_part (get_or after q 0) ≡ index_part (get_or before q 0)
  pub local : (q : ℕ) → p ≤ q → q < e → flag_local (get_or after q 0) ≡ flag_local (get_or before q 0)
  pub wrong : (q : ℕ) → p ≤ q → q < e → flag_wrong (get_or after q 0) ≡ flag_wrong (get_or before q 0)
  pub given : (q : ℕ) → p ≤ q → q < e → flag_given (get_or after q 0) ≡ is_given (names_of state batch (part p e before)) (record_in batch before q)
