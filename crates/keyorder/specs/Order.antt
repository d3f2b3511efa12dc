-- For the contracts of inner functions; no rule of the papers stands here.
-- The details of a batch in the order of their keys: the ranks of keys, and the list of the details' indexes by rank. Assumes nothing.
use Rattle.std.specs.Prelude.{ℕ, ◌+◌, ◌*◌, ◌/◌, ◌%◌, ◌^◌, ◌<◌, ◌≡◌, List, [], ◌∷◌, ◌++◌, cond, ◌⊎◌, eqb, length, get_or}
use Rattle.text.specs.Characters.{A, N}
use Rattle.text.specs.Fields.{column, columns, number, digit_field}
use Rattle.layout.specs.Key.{is_own_key}
use Rattle.layout.specs.Record.{record_key}

-- above the rank of every such key
abbrev pub no_rank : ℕ
no_rank = 2 ^ 31

-- its rank among them: the SSN's number and the case type, A before N; any other key comes behind them all
unfoldable pub rank_of : List ℕ → List ℕ → ℕ
rank_of state key = cond (is_own_key state key) (number (columns 3 11 key) * 2 + cond (eqb (column 12 key) N) 1 0) no_rank

-- the bytes of the key that a rank of the state's sound keys stands for
unfoldable pub key_of_rank : List ℕ → ℕ → List ℕ
key_of_rank state rank = state ++ (digit_field 9 (rank / 2) ++ (cond (eqb (rank % 2) 1) N A ∷ []))

-- the detail at an index
abbrev pub detail_at : List (List ℕ) → ℕ → List ℕ
detail_at details i = get_or details i []

-- the rank of its key
abbrev pub rank_at : List ℕ → List (List ℕ) → ℕ → ℕ
rank_at state details i = rank_of state (record_key (detail_at details i))

-- detail i comes before detail j: by rank, and within a rank in batch order
abbrev pub Before : List ℕ → List (List ℕ) → ℕ → ℕ → Type 0
Before state details i j =
    (rank_at state details i < rank_at state details j) ⊎ ((rank_at state details i ≡ rank_at state details j) × (i < j))

-- the indexes of all details in this order
pub record InKeyOrder (state : List ℕ) (details : List (List ℕ)) (order : List ℕ) : Type 0 where
  pub count : length order ≡ length details
  pub inside : (q : ℕ) → q < length order → get_or order q 0 < length details
  pub all : (i : ℕ) → i < length details → (q : ℕ) × (q < length order) × (get_or order q 0 ≡ i)
  pub in_order : (q p : ℕ) → q < p → p < length order → Before state details (get_or order q 0) (get_or order p 0)
