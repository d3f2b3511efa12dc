-- For the contracts of inner functions; no rule of the papers stands here.
-- A batch worked key by key, in rising order of key: each key once, with all its details. Assumes nothing.
use Rattle.std.specs.Prelude.{ℕ, ◌+◌, List, [], ◌∷◌, Bool, false, cond, ◌&&◌, not}
use Rattle.std.proofs.Math.Option.{Option}
use Rattle.text.specs.Options.{is_none}
use Rattle.text.specs.Fields.{same_bytes}
use Rattle.casemaster.specs.Rows.{row_with, with_stored}
use Rattle.layout.specs.Record.{record_key}
use Rattle.keyorder.specs.Order.{detail_at}
use Rattle.turns.specs.Under.{details_under, run_row}
use Rattle.turns.specs.Settings.{Settings, setting_under}

-- the keys of the details at some indexes
unfoldable pub keys_at : List (List ℕ) → List ℕ → List (List ℕ)
keys_at details [] = []
keys_at details (i ∷ is) = record_key (detail_at details i) ∷ keys_at details is

-- a key is the first of some keys
abbrev pub is_first : List ℕ → List (List ℕ) → Bool
is_first key [] = false
is_first key (k ∷ ks) = same_bytes key k

-- of each run of the same key, one
unfoldable pub distinct : List (List ℕ) → List (List ℕ)
distinct [] = []
distinct (k ∷ ks) = cond (is_first k ks) (distinct ks) (k ∷ distinct ks)

module _ (settings : Settings) (details : List (List ℕ)) where
  -- the row that the machine leaves under a key, from the key's row or none
  abbrev pub key_row : List ℕ → List (List ℕ) → Option (List ℕ)
  key_row key rows = run_row (setting_under settings key) (row_with key rows) (details_under key details)

  -- the rows after some keys, one behind the other
  unfoldable pub worked_keys : List (List ℕ) → List (List ℕ) → List (List ℕ)
  worked_keys [] rows = rows
  worked_keys (k ∷ ks) rows = worked_keys ks (with_stored (key_row k rows) rows)

  -- a key without a row that gets one
  abbrev pub is_new_key : List (List ℕ) → List ℕ → Bool
  is_new_key rows key = is_none (row_with key rows) && not (is_none (key_row key rows))

  -- how many of some keys are such
  unfoldable pub new_keys : List (List ℕ) → List (List ℕ) → ℕ
  new_keys [] rows = 0
  new_keys (k ∷ ks) rows = cond (is_new_key rows k) 1 0 + new_keys ks rows
