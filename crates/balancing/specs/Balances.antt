-- Document 02, item 6: over the posted lines, balances before plus adjustments equal balances after plus collections less excess.
-- Over any set of keys: a single key, or all of them, which is the whole master. Assumes nothing.
use Rattle.std.specs.Prelude.{ℕ, ◌+◌, ◌-◌, ◌≤◌, ◌≡◌, List, [], ◌∷◌, ◌++◌, Bool, true, cond}
use Rattle.std.proofs.Math.Option.{Option, none, some}
use Rattle.text.specs.Fields.{same_bytes}
use Rattle.casemaster.specs.Rows.{row_with}
use Rattle.casemaster.specs.Row.{row_key, balance}
use Rattle.collectionfile.specs.Line.{line_key, collected, adjusted}
use Rattle.posting.specs.Posting.{balance_after}
use Rattle.balancing.specs.Under.{lines_under}

-- a set of keys
abbrev pub Keys : Type 0
Keys = List ℕ → Bool

-- every key
abbrev pub all_keys : Keys
all_keys key = true

-- one key
abbrev pub one_key : List ℕ → Keys
one_key key other = same_bytes other key

-- the sum of what the members of a list have, each under its key
unfoldable pub sum_under : (List ℕ → List ℕ) → (List ℕ → ℕ) → Keys → List (List ℕ) → ℕ
sum_under key of keys [] = 0
sum_under key of keys (x ∷ xs) = cond (keys (key x)) (of x) 0 + sum_under key of keys xs

-- the balances of rows
abbrev pub balances : Keys → List (List ℕ) → ℕ
balances keys rows = sum_under row_key balance keys rows

-- the adjustments of lines
abbrev pub adjustments : Keys → List (List ℕ) → ℕ
adjustments keys lines = sum_under line_key adjusted keys lines

-- the collections of lines
abbrev pub collections : Keys → List (List ℕ) → ℕ
collections keys lines = sum_under line_key collected keys lines

-- the balance that a balance and posted lines give
unfoldable pub balance_given : ℕ → List (List ℕ) → ℕ
balance_given cents [] = cents
balance_given cents (line ∷ lines) = balance_given (balance_after cents line) lines

-- a key's balance; without a row nothing
abbrev pub balance_in : Option (List ℕ) → ℕ
balance_in none = 0
balance_in (some row) = balance row

unfoldable pub key_balance : List ℕ → List (List ℕ) → ℕ
key_balance key rows = balance_in (row_with key rows)

-- a line's excess: its collection less the balance that the key's balance at entry and its earlier posted lines give, or zero if that is
-- negative
unfoldable pub excess : List (List ℕ) → List (List ℕ) → List ℕ → ℕ
excess rows earlier line = collected line - balance_given (key_balance (line_key line) rows) (lines_under (line_key line) earlier)

-- the excesses of posted lines, behind earlier ones
unfoldable pub excesses_from : Keys → List (List ℕ) → List (List ℕ) → List (List ℕ) → ℕ
excesses_from keys rows earlier [] = 0
excesses_from keys rows earlier (line ∷ lines) =
    cond (keys (line_key line)) (excess rows earlier line) 0 + excesses_from keys rows (earlier ++ line ∷ []) lines

abbrev pub excesses : Keys → List (List ℕ) → List (List ℕ) → ℕ
excesses keys rows lines = excesses_from keys rows [] lines

-- balances before plus adjustments equal balances after plus collections less excess; nothing goes below zero in that difference
pub record Balanced (keys : Keys) (before after posted : List (List ℕ)) : Type 0 where
  pub within : excesses keys before posted ≤ collections keys posted
  pub balanced : balances keys before + adjustments keys posted
      ≡ balances keys after + (collections keys posted - excesses keys before posted)
