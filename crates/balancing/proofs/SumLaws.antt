-- Laws of sums under keys and of keys, where one row takes another's place. Assumes nothing.
use Prim.Native.Nat.{ℕ, zero, suc, ◌+◌, ◌≤◌, ◌<◌}
use native.Mathlib.Nat.{not-suc-le-zero, le_of_suc-le-suc}
use mathlib.Core.Path.{◌≡◌, refl, sym, ◌∙◌}
use mathlib.Core.List.{List, [], ◌∷◌, ◌++◌}
use mathlib.Core.Bool.{Bool, true, false, cond}
use mathlib.Core.Option.{some}
use native.Mathlib.Omega.{arith}
use lib.ListN.{length, get_or, set}
use Rattle.text.specs.Fields.{same_bytes}
use Rattle.text.specs.ByteOrder.{rising}
use Rattle.casemaster.specs.Row.{row_key, balance}
use Rattle.casemaster.specs.Rows.{row_with, with_row}
use Rattle.casemaster.specs.Master.{keys_of}
use Rattle.casemaster.proofs.SearchLaws.{row_place, place_inside, place_set}
use Rattle.collectionfile.specs.Line.{line_key, collected}
use Rattle.posting.specs.Posting.{balance_after, posted_row, after_line, after_lines}
use Rattle.balancing.specs.Balances.{Keys, sum_under, balances, collections, balance_given, excess, excesses_from}
use Rattle.balancing.specs.Under.{lines_under}
use Rattle.posting.proofs.TurnLaws.{Turn, posted, left, turn, posted_key, after_fit}
use Rattle.casemaster.proofs.RowsLaws.{Fit, rows_rise}

-- ---- one member replaced

sum-set : (key : List ℕ → List ℕ) (of : List ℕ → ℕ) (keys : Keys) (xs : List (List ℕ)) (p : ℕ) (new : List ℕ) → p < length xs
    → sum_under key of keys (set xs p new) + cond (keys (key (get_or xs p []))) (of (get_or xs p [])) 0
    ≡ sum_under key of keys xs + cond (keys (key new)) (of new) 0
unfolding sum_under
sum-set key of keys [] p new h = absurd (not-suc-le-zero h)
sum-set key of keys (x ∷ xs) zero new h = omega arith
sum-set key of keys (x ∷ xs) (suc p) new h = omega (arith, sum-set key of keys xs p new (le_of_suc-le-suc h))

keys_set : (xs : List (List ℕ)) (p : ℕ) (new : List ℕ) → p < length xs → row_key (get_or xs p []) ≡ row_key new → keys_of (set xs p new) ≡ keys_of xs
unfolding keys_of
keys_set [] p new h e = absurd (not-suc-le-zero h)
keys_set (x ∷ xs) zero new h e = rw e
keys_set (x ∷ xs) (suc p) new h e = rw (keys_set xs p new (le_of_suc-le-suc h) e)

module _ (rows : List (List ℕ)) (r : rising (keys_of rows) ≡ true) (key new old : List ℕ) (e : row_with key rows ≡ some old)
    (k : row_key new ≡ key) where
  pub sum_replaced : (keys : Keys)
      → balances keys (with_row new rows) + cond (keys (row_key old)) (balance old) 0 ≡ balances keys rows + cond (keys (row_key new)) (balance new) 0
  sum_replaced keys =
      let p = row_place key rows old e in
      let i = place_inside key rows p.0 p.1 in
      rw (place_set key new rows p.0 p.1 r k) (rw p.2 at (sum-set row_key balance keys rows p.0 new i.0))

  pub keys_replaced : keys_of (with_row new rows) ≡ keys_of rows
  keys_replaced =
      let p = row_place key rows old e in
      let i = place_inside key rows p.0 p.1 in
      rw (place_set key new rows p.0 p.1 r k) (keys_set rows p.0 new i.0 (i.1 ∙ sym k))

-- ---- no key appears or goes away

keys_after : (rows : List (List ℕ)) (line : List ℕ) → Fit rows → keys_of (after_line rows line) ≡ keys_of rows
keys_after rows line s = go (turn rows line)
  where
    go : Turn rows line → keys_of (after_line rows line) ≡ keys_of rows
    go (posted row e t p a) =
        rw a (keys_replaced rows (rows_rise rows s.sound) (line_key line) (posted_row line row) row e (posted_key rows s line row e))
    go (left p a) = rw a

pub keys_stay : (rows lines : List (List ℕ)) → Fit rows → keys_of (after_lines rows lines) ≡ keys_of rows
unfolding after_lines
keys_stay rows [] s = refl
keys_stay rows (line ∷ lines) s = keys_stay (after_line rows line) lines (after_fit rows line s) ∙ keys_after rows line s

-- ---- the lines of a key, and the balance that they give

pub lines_append : (key : List ℕ) (xs ys : List (List ℕ)) → lines_under key (xs ++ ys) ≡ lines_under key xs ++ lines_under key ys
unfolding lines_under
lines_append key [] ys = refl
lines_append key (x ∷ xs) ys = go (same_bytes (line_key x) key) (lines_append key xs ys)
  where
    go : (b : Bool) → lines_under key (xs ++ ys) ≡ lines_under key xs ++ lines_under key ys
        → cond b (x ∷ []) [] ++ lines_under key (xs ++ ys) ≡ (cond b (x ∷ []) [] ++ lines_under key xs) ++ lines_under key ys
    go true h = rw h
    go false h = h

pub given_append : (cents : ℕ) (xs ys : List (List ℕ)) → balance_given cents (xs ++ ys) ≡ balance_given (balance_given cents xs) ys
unfolding balance_given
given_append cents [] ys = refl
given_append cents (x ∷ xs) ys = given_append (balance_after cents x) xs ys

-- ---- excess within the collections

pub excess-within : (keys : Keys) (rows earlier lines : List (List ℕ)) → excesses_from keys rows earlier lines ≤ collections keys lines
unfolding excesses_from sum_under excess
excess-within keys rows earlier [] = omega arith
excess-within keys rows earlier (line ∷ lines) = go (keys (line_key line)) (excess-within keys rows (earlier ++ line ∷ []) lines)
  where
    go : (b : Bool) → excesses_from keys rows (earlier ++ line ∷ []) lines ≤ collections keys lines
        → cond b (excess rows earlier line) 0 + excesses_from keys rows (earlier ++ line ∷ []) lines
        ≤ cond b (collected line) 0 + collections keys lines
    go true h = omega arith
    go false h = omega arith
