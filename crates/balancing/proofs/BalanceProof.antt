-- Over any set of keys, and over the posted lines: balances before plus adjustments equal balances after plus collections less excess.
-- Assumes nothing.
use Prim.Native.Nat.{ℕ, ◌+◌, ◌-◌}
use mathlib.Core.Path.{◌≡◌, refl, sym}
use mathlib.Core.Logic.{◌⊎◌, inl, inr}
use mathlib.Core.List.{List, [], ◌∷◌, ◌++◌}
use mathlib.Core.Bool.{Bool, true, false, cond}
use mathlib.Core.Option.{some}
use native.Mathlib.Omega.{arith}
use Rattle.text.specs.Fields.{same_bytes}
use Rattle.casemaster.specs.Row.{balance}
use Rattle.casemaster.specs.Rows.{row_with, with_row}
use Rattle.text.proofs.SameLaws.{same_eq}
use Rattle.casemaster.proofs.SearchLaws.{row_with_same, row_with_other}
use Rattle.casemaster.proofs.RowsLaws.{Fit, rows_rise}
use Rattle.collectionfile.specs.Line.{line_key, collected, adjusted}
use Rattle.posting.specs.Posting.{balance_after, is_posted_on, posted_row, after_lines, posted_lines}
use Rattle.balancing.specs.Balances.{Keys, sum_under, balances, adjustments, collections, balance_given, key_balance, excess, excesses_from, Balanced}
use Rattle.balancing.specs.Under.{lines_under}
use Rattle.posting.proofs.TurnLaws.{Turn, posted, left, turn, posted_one_zero, found_key, posted_key, posted-balance, after_fit}
use Rattle.balancing.proofs.SumLaws.{sum_replaced, lines_append, given_append, excess-within}

-- what the balances at entry and the earlier posted lines give are the balances now
abbrev Tracks : List (List ℕ) → List (List ℕ) → List (List ℕ) → Type 0
Tracks entry earlier rows = (key : List ℕ) → balance_given (key_balance key entry) (lines_under key earlier) ≡ key_balance key rows

-- the balance of each key after a posted line
module _ (rows : List (List ℕ)) (s : Fit rows) (line row : List ℕ) (e : row_with (line_key line) rows ≡ some row)
    (t : is_posted_on line row ≡ true) where
  abbrev new : List ℕ
  new = posted_row line row

  at_key : key_balance (line_key line) rows ≡ balance row
  unfolding key_balance
  at_key = rw e

  key_after : (key : List ℕ) (b : Bool) → same_bytes (line_key line) key ≡ b
      → balance_given (key_balance key rows) (cond b (line ∷ []) []) ≡ key_balance key (with_row new rows)
  unfolding balance_given key_balance
  key_after key true h =
      let k : line_key line ≡ key = same_eq (line_key line) key h in
      rw (← k, e, row_with_same (line_key line) new rows (posted_key rows s line row e)) (sym (posted-balance rows s line row e t))
  key_after key false h =
      rw (row_with_other key new rows (rw (posted_key rows s line row e) h))

  tracks_on : (entry earlier : List (List ℕ)) → Tracks entry earlier rows → Tracks entry (earlier ++ line ∷ []) (with_row new rows)
  unfolding lines_under
  tracks_on entry earlier h key =
      rw (lines_append key earlier (line ∷ []), given_append (key_balance key entry) (lines_under key earlier) (lines_under key (line ∷ [])), h key)
      (go (same_bytes (line_key line) key) (key_after key (same_bytes (line_key line) key) refl))
    where
      go : (b : Bool) → balance_given (key_balance key rows) (cond b (line ∷ []) []) ≡ key_balance key (with_row new rows)
          → balance_given (key_balance key rows) (cond b (line ∷ []) [] ++ []) ≡ key_balance key (with_row new rows)
      go true h = h
      go false h = h

  -- what one posted line does to the sums
  one_line : (keys : Keys) (entry earlier : List (List ℕ)) → Tracks entry earlier rows
      → balances keys rows + cond (keys (line_key line)) (adjusted line) 0 + cond (keys (line_key line)) (excess entry earlier line) 0
      ≡ balances keys (with_row new rows) + cond (keys (line_key line)) (collected line) 0
  unfolding excess balance_after
  one_line keys entry earlier h =
      let q : balances keys (with_row new rows) + cond (keys (line_key line)) (balance row) 0
      ≡ balances keys rows + cond (keys (line_key line)) (balance_after (balance row) line) 0 =
      rw (found_key rows s line row e, posted_key rows s line row e, posted-balance rows s line row e t)
      at (sum_replaced rows (rows_rise rows s.sound) (line_key line) new row e (posted_key rows s line row e) keys) in
      rw (h (line_key line), at_key) (go (keys (line_key line)) q (posted_one_zero line row t))
    where
      go : (b : Bool)
          → balances keys (with_row new rows) + cond b (balance row) 0 ≡ balances keys rows + cond b (balance_after (balance row) line) 0
          → (collected line ≡ 0) ⊎ (adjusted line ≡ 0)
          → balances keys rows + cond b (adjusted line) 0 + cond b (collected line - balance row) 0
          ≡ balances keys (with_row new rows) + cond b (collected line) 0
      go true q (inl z) = omega arith
      go true q (inr z) = omega arith
      go false q z = omega arith

-- ---- all lines

total : (keys : Keys) (entry earlier rows lines : List (List ℕ)) → Fit rows → Tracks entry earlier rows
    → balances keys rows + adjustments keys (posted_lines rows lines) + excesses_from keys entry earlier (posted_lines rows lines)
    ≡ balances keys (after_lines rows lines) + collections keys (posted_lines rows lines)
unfolding posted_lines after_lines excesses_from sum_under
total keys entry earlier rows [] s h = omega arith
total keys entry earlier rows (line ∷ lines) s h =
    go (turn rows line) (λ x r u k. total keys entry x r lines u k)
  where
    go : Turn rows line
        → ((x r : List (List ℕ)) → Fit r → Tracks entry x r
        → balances keys r + adjustments keys (posted_lines r lines) + excesses_from keys entry x (posted_lines r lines)
        ≡ balances keys (after_lines r lines) + collections keys (posted_lines r lines))
        → balances keys rows + adjustments keys (posted_lines rows (line ∷ lines))
        + excesses_from keys entry earlier (posted_lines rows (line ∷ lines))
        ≡ balances keys (after_lines rows (line ∷ lines)) + collections keys (posted_lines rows (line ∷ lines))
    go (posted row e t p a) ih =
        let u : Fit (with_row (posted_row line row) rows) = rw a at (after_fit rows line s) in
        let i = ih (earlier ++ line ∷ []) (with_row (posted_row line row) rows) u (tracks_on rows s line row e t entry earlier h) in
        rw (p, a) (omega (arith, i, one_line rows s line row e t keys entry earlier h))
    go (left p a) ih = rw (p, a) (ih earlier rows s h)

-- ---- the theorem

pub balanced : (keys : Keys) (rows lines : List (List ℕ)) → Fit rows
    → Balanced keys rows (after_lines rows lines) (posted_lines rows lines)
unfolding lines_under balance_given
balanced keys rows lines s =
    let w = excess-within keys rows [] (posted_lines rows lines) in
    record { within = w; balanced = omega (arith, w, total keys rows [] rows lines s (λ key. refl)) }
