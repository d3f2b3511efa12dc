-- For the contracts of inner functions; no rule of the papers stands here.
-- What a search for a key among rows answers, and rows put in, pulled down and moved up. Assumes nothing.
use Rattle.std.specs.Prelude.{ℕ, ◌+◌, ◌-◌, ◌*◌, ◌≤◌, ◌<◌, ◌≡◌, Bool, true, false, ◌⊎◌, List, [], ◌∷◌, ◌++◌, length, take, drop, Result, Ok, Err}
use Rattle.std.proofs.Math.Option.{none, some}
use Rattle.casemaster.specs.Row.{row_key}
use Rattle.casemaster.specs.Master.{rows_of}
use Rattle.casemaster.specs.Rows.{place_with, with_row}
use Rattle.text.specs.ByteOrder.{order_of, is_less}

-- a row put in at place p, those from p on one place up
abbrev pub inserted : ℕ → List ℕ → List (List ℕ) → List (List ℕ)
inserted p row rows = take p rows ++ row ∷ drop p rows

-- the bytes from a up to e moved g places up; those below a + g and from e + g on are kept
unfoldable pub shifted : List ℕ → ℕ → ℕ → ℕ → List ℕ
shifted bytes a e g = take (a + g) bytes ++ (take (e - a) (drop a bytes) ++ drop (e + g) bytes)

-- no row has the key, and p is where a row of that key goes
pub record IsGap (p : ℕ) (key : List ℕ) (rows : List (List ℕ)) : Type 0 where
  pub missing : place_with key rows ≡ none
  pub within : p ≤ length rows
  pub goes : (row : List ℕ) → row_key row ≡ key → with_row row rows ≡ inserted p row rows

-- the answer: the place of the key's row, or the gap where it would go
abbrev pub IsPlace : Result ℕ ℕ → List ℕ → List (List ℕ) → Type 0
IsPlace (Ok p) key rows = place_with key rows ≡ some p
IsPlace (Err p) key rows = IsGap p key rows

-- the key of the row at place p is below a key
abbrev pub is_below_at : List ℕ → ℕ → List ℕ → Bool
is_below_at m p key = is_less (order_of (take 12 (drop (p * 200) m)) key)

-- from place `from` on, up to place end, keys rise: where a row's key is below another, so are those of the rows before it
abbrev pub KeysRise : List ℕ → ℕ → ℕ → Type 0
KeysRise m from end =
    (key : List ℕ) (i j : ℕ) → i ≤ j → from + j < end → is_below_at m (from + j) key ≡ true → is_below_at m (from + i) key ≡ true

-- from place `from` on, low rows have keys below the one given, and the row behind high rows, if it's before place end, hasn't
pub record Between (m : List ℕ) (from end : ℕ) (key : List ℕ) (low high : ℕ) : Type 0 where
  pub order : low ≤ high
  pub within : from + high ≤ end
  pub below : (j : ℕ) → j < low → is_below_at m (from + j) key ≡ true
  pub stops : (from + high ≡ end) ⊎ (is_below_at m (from + high) key ≡ false)

-- from place `from` on, count rows have keys below the one given, and the row behind them, if it's before place end, hasn't
pub record AreBelow (m : List ℕ) (from end : ℕ) (key : List ℕ) (count : ℕ) : Type 0 where
  pub within : from + count ≤ end
  pub below : (j : ℕ) → j < count → is_less (order_of (take 12 (drop ((from + j) * 200) m)) key) ≡ true
  pub stops : (from + count ≡ end) ⊎ (is_less (order_of (take 12 (drop ((from + count) * 200) m)) key) ≡ false)

-- the buffer has a row at place p; the rows before it and the bytes behind it are kept
pub record RowPut (before : List ℕ) (p : ℕ) (row after : List ℕ) : Type 0 where
  pub rows_are : rows_of (p + 1) after ≡ rows_of p before ++ row ∷ []
  pub rest_kept : drop ((p + 1) * 200) after ≡ drop ((p + 1) * 200) before
  pub same_length : length after ≡ length before

-- count rows from place `from` on are copied down to place `to`; the rows before it and the bytes behind those copied are kept
pub record Pulled (before : List ℕ) (from to count : ℕ) (after : List ℕ) : Type 0 where
  pub rows_are : rows_of (to + count) after ≡ rows_of to before ++ rows_of count (drop (from * 200) before)
  pub rest_kept : drop ((from + count) * 200) after ≡ drop ((from + count) * 200) before
  pub same_length : length after ≡ length before

-- the first n rows stand `by` places further up; the bytes behind them are kept
pub record Raised (before : List ℕ) (n by : ℕ) (after : List ℕ) : Type 0 where
  pub rows_are : rows_of n (drop (by * 200) after) ≡ rows_of n before
  pub rest_kept : drop ((n + by) * 200) after ≡ drop ((n + by) * 200) before
  pub same_length : length after ≡ length before
