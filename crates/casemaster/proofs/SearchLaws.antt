-- Laws of rows under their keys: the row with a key, its place, and a row put in its place. Assumes nothing.
use mathlib.Core.Path.{◌≡◌, refl, sym, ap, ◌∙◌}
use mathlib.Core.Bool.{Bool, true, false, cond}
use mathlib.Core.List.{List, [], ◌∷◌}
use mathlib.Core.Option.{Option, none, some}
use Prim.Native.Nat.{ℕ, zero, suc, ◌<◌, suc-le-suc}
use native.Mathlib.Nat.{not-suc-le-zero, le_of_suc-le-suc, zero-lt-suc}
use native.Mathlib.Omega.{arith}
use lib.ListN.{length, get_or, set, length-set, length-map, get_or-map}
use Rattle.text.specs.Fields.{same_bytes, every}
use Rattle.casemaster.specs.Row.{row_key, is_sound_row}
use Rattle.casemaster.specs.Master.{keys_of, are_sound_rows}
use Rattle.casemaster.specs.Rows.{row_with, place_with, with_row, one_more}
use Rattle.text.proofs.FieldsLaws.{and_left, and_right}
use Rattle.text.proofs.SameLaws.{same_eq, eq_same}
use Rattle.text.specs.ByteOrder.{less, greater, order_of, is_less, is_equal, below_first, rising}
use Rattle.text.proofs.ByteOrderLaws.{Sides, below, level, above, sides, less_sides, same_order, rising_head, rising_tail, block_below, block_level, block_above}

-- ---- a row with a key, and its place

-- the row at a place, if there is a place
abbrev pub row_at : Option ℕ → List (List ℕ) → Option (List ℕ)
row_at none rows = none
row_at (some p) rows = some (get_or rows p [])

pub row_at_place : (key : List ℕ) (rows : List (List ℕ)) → row_with key rows ≡ row_at (place_with key rows) rows
unfolding row_with place_with
row_at_place key [] = refl
row_at_place key (row ∷ rows) = go (same_bytes (row_key row) key) (place_with key rows) (row_at_place key rows)
  where
    go : (t : Bool) (q : Option ℕ) → row_with key rows ≡ row_at q rows
        → cond t (some row) (row_with key rows) ≡ row_at (cond t (some zero) (one_more q)) (row ∷ rows)
    go true q ih = refl
    go false none ih = ih
    go false (some p) ih = ih

module _ (key : List ℕ) (rows : List (List ℕ)) where
  pub place_row : (p : ℕ) → place_with key rows ≡ some p → row_with key rows ≡ some (get_or rows p [])
  place_row p e = row_at_place key rows ∙ rw e

  pub no_place-row : place_with key rows ≡ none → row_with key rows ≡ none
  no_place-row e = row_at_place key rows ∙ rw e

  pub no_row_place : row_with key rows ≡ none → place_with key rows ≡ none
  no_row_place e = go (place_with key rows) (sym (row_at_place key rows) ∙ e)
    where
      go : (q : Option ℕ) → row_at q rows ≡ none → q ≡ none
      go none h = refl
      go (some p) h = cc

  pub row_place : (r : List ℕ) → row_with key rows ≡ some r → (p : ℕ) × (place_with key rows ≡ some p) × (get_or rows p [] ≡ r)
  row_place r e = go (place_with key rows) refl (sym (row_at_place key rows) ∙ e)
    where
      go : (q : Option ℕ) → place_with key rows ≡ q → row_at q rows ≡ some r → (p : ℕ) × (place_with key rows ≡ some p) × (get_or rows p [] ≡ r)
      go none f h = let z : ◌≡◌ {A = ℕ} 0 1 = cc in absurd (omega arith)
      go (some p) f h = (p, f, (cc))

pub place_inside : (key : List ℕ) (rows : List (List ℕ)) (p : ℕ) → place_with key rows ≡ some p
    → (p < length rows) × (row_key (get_or rows p []) ≡ key)
unfolding place_with
place_inside key [] p e = let z : ◌≡◌ {A = ℕ} 0 1 = cc in absurd (omega arith)
place_inside key (row ∷ rows) p e = go (same_bytes (row_key row) key) refl (place_with key rows) (place_inside key rows) e
  where
    go : (t : Bool) → same_bytes (row_key row) key ≡ t → (q : Option ℕ)
        → ((k : ℕ) → q ≡ some k → (k < length rows) × (row_key (get_or rows k []) ≡ key)) → cond t (some zero) (one_more q) ≡ some p
        → (p < length (row ∷ rows)) × (row_key (get_or (row ∷ rows) p []) ≡ key)
    go true h q ih e = let z : p ≡ 0 = cc in rw z (zero-lt-suc (length rows), same_eq (row_key row) key h)
    go false h none ih e = let z : ◌≡◌ {A = ℕ} 0 1 = cc in absurd (omega arith)
    go false h (some k) ih e =
        let z : p ≡ suc k = cc in
        let i = ih k refl in
        rw z (suc-le-suc i.0, i.1)

pub row_key_lem : (key : List ℕ) (rows : List (List ℕ)) (r : List ℕ) → row_with key rows ≡ some r → row_key r ≡ key
row_key_lem key rows r e = let p = row_place key rows r e in rw p.2 at (place_inside key rows p.0 p.1).1

-- ---- a row put in its place, by its order against the first

module _ (new row : List ℕ) (rows : List (List ℕ)) where
  pub with_below : order_of (row_key new) (row_key row) ≡ less → with_row new (row ∷ rows) ≡ new ∷ row ∷ rows
  unfolding with_row
  with_below h = block_below 12 new row rows h

  pub with_level : row_key new ≡ row_key row → with_row new (row ∷ rows) ≡ new ∷ rows
  unfolding with_row
  with_level e = block_level 12 new row rows e

  pub with_above : order_of (row_key new) (row_key row) ≡ greater → with_row new (row ∷ rows) ≡ row ∷ with_row new rows
  unfolding with_row
  with_above h = block_above 12 new row rows h

-- ---- rows in rising order

module _ (row : List ℕ) (rows : List (List ℕ)) (r : rising (keys_of (row ∷ rows)) ≡ true) where
  pub rows_tail : rising (keys_of rows) ≡ true
  unfolding keys_of
  rows_tail = rising_tail (row_key row) (keys_of rows) r

  -- the first row's key is below each that follows
  pub rows_head : (p : ℕ) → p < length rows → is_less (order_of (row_key row) (row_key (get_or rows p []))) ≡ true
  unfolding keys_of
  rows_head p l =
      rw (← get_or-map row_key rows p []) (rising_head (row_key row) (keys_of rows) p r (rw (length-map rows row_key) l))

-- where a row stands is the place of its key
pub place_found_lem : (key : List ℕ) (rows : List (List ℕ)) (p : ℕ) → rising (keys_of rows) ≡ true → p < length rows
    → row_key (get_or rows p []) ≡ key → place_with key rows ≡ some p
unfolding place_with is_equal
place_found_lem key [] p r l e = absurd (not-suc-le-zero l)
place_found_lem key (row ∷ rows) zero r l e = rw (eq_same (row_key row) key e)
place_found_lem key (row ∷ rows) (suc p) r l e =
    let h : is_less (order_of (row_key row) key) ≡ true = rw e at (rows_head row rows r p (le_of_suc-le-suc l)) in
    rw (
      same_order (row_key row) key,
      (less_sides (row_key row) key h).0,
      place_found_lem key rows p (rows_tail row rows r) (le_of_suc-le-suc l) e,
    )

-- a row written over the one with its key
pub set_found : (new : List ℕ) (rows : List (List ℕ)) (p : ℕ) → rising (keys_of rows) ≡ true → p < length rows
    → row_key (get_or rows p []) ≡ row_key new → with_row new rows ≡ set rows p new
set_found new [] p r l e = absurd (not-suc-le-zero l)
set_found new (row ∷ rows) zero r l e = with_level new row rows (sym e)
set_found new (row ∷ rows) (suc p) r l e =
    let h : is_less (order_of (row_key row) (row_key new)) ≡ true = rw e at (rows_head row rows r p (le_of_suc-le-suc l)) in
    rw (with_above new row rows (less_sides (row_key row) (row_key new) h).1)
    (rw (set_found new rows p (rows_tail row rows r) (le_of_suc-le-suc l) e))

pub place_set : (key new : List ℕ) (rows : List (List ℕ)) (p : ℕ) → place_with key rows ≡ some p → rising (keys_of rows) ≡ true
    → row_key new ≡ key → with_row new rows ≡ set rows p new
place_set key new rows p e r k = let i = place_inside key rows p e in set_found new rows p r i.0 (i.1 ∙ sym k)

-- ---- what is kept

-- each row is the new one or one of the old
pub with_every : (f : List ℕ → Bool) (new : List ℕ) (rows : List (List ℕ)) → every f rows ≡ true → f new ≡ true
    → every f (with_row new rows) ≡ true
unfolding with_row
with_every f new [] t n = rw n
with_every f new (row ∷ rows) t n =
    let g : every f rows ≡ true = and_right (f row) (every f rows) t in
    go g (with_every f new rows g n) (sides (row_key new) (row_key row))
  where
    go : every f rows ≡ true → every f (with_row new rows) ≡ true → Sides (row_key new) (row_key row)
        → every f (with_row new (row ∷ rows)) ≡ true
    go g ih (below o u) = rw (with_below new row rows o, n) t
    go g ih (level e) = rw (with_level new row rows e, n) g
    go g ih (above o u) = rw (with_above new row rows o, and_left (f row) (every f rows) t) ih

first_kept : (k new : List ℕ) (rows : List (List ℕ)) → is_less (order_of k (row_key new)) ≡ true → below_first k (keys_of rows) ≡ true
    → below_first k (keys_of (with_row new rows)) ≡ true
unfolding below_first keys_of with_row
first_kept k new [] h b = h
first_kept k new (row ∷ rows) h b = go (sides (row_key new) (row_key row))
  where
    go : Sides (row_key new) (row_key row) → below_first k (keys_of (with_row new (row ∷ rows))) ≡ true
    go (below o u) = rw (with_below new row rows o) h
    go (level e) = rw (with_level new row rows e) h
    go (above o u) = rw (with_above new row rows o) b

pub with_rising : (new : List ℕ) (rows : List (List ℕ)) → rising (keys_of rows) ≡ true → rising (keys_of (with_row new rows)) ≡ true
unfolding rising below_first keys_of with_row is_less
with_rising new [] r = refl
with_rising new (row ∷ rows) r = go (with_rising new rows (rows_tail row rows r)) (sides (row_key new) (row_key row))
  where
    go : rising (keys_of (with_row new rows)) ≡ true → Sides (row_key new) (row_key row) → rising (keys_of (with_row new (row ∷ rows))) ≡ true
    go ih (below o u) = rw (with_below new row rows o) (rw o r)
    go ih (level e) = rw (with_level new row rows e) (rw e r)
    go ih (above o u) =
        let f : below_first (row_key row) (keys_of (with_row new rows)) ≡ true =
        first_kept (row_key row) new rows (rw u) (and_left (below_first (row_key row) (keys_of rows)) (rising (keys_of rows)) r) in
        rw (with_above new row rows o) (rw f ih)

pub with_sound : (new : List ℕ) (rows : List (List ℕ)) → are_sound_rows rows ≡ true → is_sound_row new ≡ true
    → are_sound_rows (with_row new rows) ≡ true
unfolding are_sound_rows
with_sound new rows t n =
    let s = and_left (every is_sound_row rows) (rising (keys_of rows)) t in
    let r = and_right (every is_sound_row rows) (rising (keys_of rows)) t in
    rw (with_every is_sound_row new rows s n) (with_rising new rows r)

-- ---- how many rows

pub length_replaced : (new : List ℕ) (rows : List (List ℕ)) (r : List ℕ) → rising (keys_of rows) ≡ true
    → row_with (row_key new) rows ≡ some r → length (with_row new rows) ≡ length rows
length_replaced new rows r s e =
    let p = row_place (row_key new) rows r e in
    rw (place_set (row_key new) new rows p.0 p.1 s refl) (length-set rows p.0 new)

pub length-added : (new : List ℕ) (rows : List (List ℕ)) → row_with (row_key new) rows ≡ none → length (with_row new rows) ≡ suc (length rows)
unfolding row_with with_row is_equal
length-added new [] e = refl
length-added new (row ∷ rows) e = go (length-added new rows) (sides (row_key new) (row_key row))
  where
    go : (row_with (row_key new) rows ≡ none → length (with_row new rows) ≡ suc (length rows)) → Sides (row_key new) (row_key row)
        → length (with_row new (row ∷ rows)) ≡ suc (suc (length rows))
    go ih (below o u) = rw (with_below new row rows o)
    go ih (level k) = let z : some row ≡ none = rw (eq_same (row_key row) (row_key new) (sym k)) at e in cc
    go ih (above o u) = rw (with_above new row rows o) (ap suc (ih (rw (same_order (row_key row) (row_key new), u) at e)))

-- ---- the row with a key, after it

pub row_with_same : (key new : List ℕ) (rows : List (List ℕ)) → row_key new ≡ key → row_with key (with_row new rows) ≡ some new
unfolding row_with with_row is_equal
row_with_same key new [] k = rw (eq_same (row_key new) key k)
row_with_same key new (row ∷ rows) k = go (row_with_same key new rows k) (sides (row_key new) (row_key row))
  where
    go : row_with key (with_row new rows) ≡ some new → Sides (row_key new) (row_key row) → row_with key (with_row new (row ∷ rows)) ≡ some new
    go ih (below o u) = rw (with_below new row rows o, eq_same (row_key new) key k)
    go ih (level e) = rw (with_level new row rows e, eq_same (row_key new) key k)
    go ih (above o u) = rw (with_above new row rows o, same_order (row_key row) key, ← k, u) ih

pub row_with_other : (key new : List ℕ) (rows : List (List ℕ)) → same_bytes (row_key new) key ≡ false
    → row_with key (with_row new rows) ≡ row_with key rows
unfolding row_with with_row
row_with_other key new [] k = rw k
row_with_other key new (row ∷ rows) k = go (row_with_other key new rows k) (sides (row_key new) (row_key row))
  where
    go : row_with key (with_row new rows) ≡ row_with key rows → Sides (row_key new) (row_key row)
        → row_with key (with_row new (row ∷ rows)) ≡ row_with key (row ∷ rows)
    go ih (below o u) = rw (with_below new row rows o, k)
    go ih (level e) = rw (with_level new row rows e) (rw (k, ← e, k))
    go ih (above o u) = rw (with_above new row rows o, ih)
