-- For the contracts of inner functions; no rule of the papers stands here.
-- Where the own keys end in the key order, and the run of one rank with what its flags say together. Assumes nothing.
use Rattle.std.specs.Prelude.{ℕ, zero, suc, ◌+◌, ◌-◌, ◌*◌, ◌≤◌, ◌<◌, ◌≡◌, List, Bool, false, ◌||◌, ◌⊎◌, length, get_or}
use Rattle.keyorder.specs.declared.runs.Run.{Run}
use Rattle.keyorder.specs.Order.{no_rank}
use Rattle.keyorder.specs.Tagged.{rank_part, index_part, flag_gives, makes_from, Tagged, TaggedOrder, record_in}

-- the ranks of the first d numbers do not fall
abbrev pub RanksRise : ℕ → List ℕ → Type 0
RanksRise d numbers = (q p : ℕ) → q < p → p < d → rank_part (get_or numbers q 0) ≤ rank_part (get_or numbers p 0)

-- own is the first position whose number has no rank of the state's own
pub record IsOwnEnd (d : ℕ) (numbers : List ℕ) (own : ℕ) : Type 0 where
  pub within : own ≤ d
  pub low : (q : ℕ) → q < own → rank_part (get_or numbers q 0) < no_rank
  pub high : (q : ℕ) → own ≤ q → q < d → no_rank ≤ rank_part (get_or numbers q 0)

-- d details in key order, the first own of them being those of the submitting state's sound keys
pub record DetailsOrdered (state : List ℕ) (year : ℕ) (list : List ℕ) (details : List (List ℕ)) (d : ℕ) (before after : List ℕ) (own : ℕ) : Type 0 where
  pub order : TaggedOrder state year list details d before after
  pub own_end : IsOwnEnd d after own

-- e is the first position behind p with another rank, or own where there is none
pub record IsRun (numbers : List ℕ) (p own e : ℕ) : Type 0 where
  pub later : p < e
  pub within : e ≤ own
  pub same : (q : ℕ) → p ≤ q → q < e → rank_part (get_or numbers q 0) ≡ rank_part (get_or numbers p 0)
  pub other : (e ≡ own) ⊎ (rank_part (get_or numbers e 0) ≡ rank_part (get_or numbers p 0) → ⊥)

-- one of n numbers from position p on passes a test
unfoldable pub any_from : (ℕ → Bool) → List ℕ → ℕ → ℕ → Bool
any_from f numbers p zero = false
any_from f numbers p (suc n) = any_from f numbers p n || f (get_or numbers (p + n) 0)

-- a run, with what its flags say together
pub record RunFound (numbers : List ℕ) (p own : ℕ) (r : Run) : Type 0 where
  pub run : IsRun numbers p own r.end
  pub gives_is : r.gives ≡ any_from flag_gives numbers p (r.end - p)
  pub makes_is : r.makes ≡ any_from makes_from numbers p (r.end - p)

-- the numbers from position p up to own are as they were sorted: each that of its detail, within a rank in batch order
pub record SortedFrom (state : List ℕ) (year : ℕ) (list batch numbers : List ℕ) (p own : ℕ) : Type 0 where
  pub within : own ≤ length numbers
  pub there : (q : ℕ) → p ≤ q → q < own → index_part (get_or numbers q 0) * 245 + 245 ≤ length batch
  pub tags : (q : ℕ) → p ≤ q → q < own → Tagged state year list (index_part (get_or numbers q 0)) (record_in batch numbers q) (get_or numbers q 0)
  pub rising : (q r : ℕ) → p ≤ q → q < r → r < own → rank_part (get_or numbers q 0) ≡ rank_part (get_or numbers r 0)
      → index_part (get_or numbers q 0) < index_part (get_or numbers r 0)
