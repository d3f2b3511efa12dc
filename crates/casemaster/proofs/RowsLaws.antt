-- Laws of rows under their keys, for whatever holds of each row; and rows in rising order of key are the same where the same is found under each
-- key. Assumes nothing.
use Prim.Native.Nat.{ℕ, ◌<◌}
use mathlib.Core.Path.{◌≡◌, refl, sym, ◌∙◌}
use mathlib.Core.Bool.{Bool, true, false, cond}
use mathlib.Core.List.{List, [], ◌∷◌, ◌++◌}
use mathlib.Core.Option.{Option, none, some}
use native.Mathlib.Omega.{arith}
use Rattle.text.specs.Fields.{same_bytes, every}
use Rattle.casemaster.specs.Row.{row_key, is_sound_row}
use lib.ListN.{length, length-append}
use lib.Seq.{get_or-append_seam}
use Rattle.casemaster.specs.Master.{keys_of, are_sound_rows}
use Rattle.casemaster.specs.Rows.{row_with, with_row}
use Rattle.text.proofs.FieldsLaws.{and_left, and_right}
use Rattle.text.proofs.SameLaws.{eq_same, same_eq}
use Rattle.casemaster.proofs.SearchLaws.{with_below, with_level, with_above, rows_head, rows_tail}
use Rattle.text.proofs.WidthLaws.{All}
use Rattle.text.specs.ByteOrder.{order_of, is_less, is_equal, below_first, rising}
use Rattle.text.proofs.ByteOrderLaws.{Sides, below, level, above, sides, less_sides, less_trans, same_order}

-- ---- the row with a key

module _ (key row : List ℕ) (rows : List (List ℕ)) where
  pub found_here : row_key row ≡ key → row_with key (row ∷ rows) ≡ some row
  unfolding row_with
  found_here e = rw (eq_same (row_key row) key e)

  pub found_behind : same_bytes (row_key row) key ≡ false → row_with key (row ∷ rows) ≡ row_with key rows
  unfolding row_with
  found_behind e = rw e

-- of a row, where there is one
abbrev pub Each : (List ℕ → Type 0) → Option (List ℕ) → Type 0
Each P none = Unit {0}
Each P (some r) = P r

pub each_some : (P : List ℕ → Type 0) (row : Option (List ℕ)) (r : List ℕ) → Each P row → row ≡ some r → P r
each_some P row r h e = rw e at h

-- a row is 200 bytes
abbrev pub IsWide : List ℕ → Type 0
IsWide r = length r ≡ 200

-- what holds of each row holds of the one that is found
pub found_all : (P : List ℕ → Type 0) (key : List ℕ) (rows : List (List ℕ)) → All P rows → Each P (row_with key rows)
unfolding row_with
found_all P key [] h = tt
found_all P key (row ∷ rows) h = go (same_bytes (row_key row) key) (found_all P key rows h.1)
  where
    go : (t : Bool) → Each P (row_with key rows) → Each P (cond t (some row) (row_with key rows))
    go true k = h.0
    go false k = k

-- what holds of the new row and of each row holds of each once it is in its place
pub all_put : (P : List ℕ → Type 0) (new : List ℕ) (rows : List (List ℕ)) → P new → All P rows → All P (with_row new rows)
unfolding with_row
all_put P new [] n h = (n, tt)
all_put P new (row ∷ rows) n h = go (all_put P new rows n h.1) (sides (row_key new) (row_key row))
  where
    go : All P (with_row new rows) → Sides (row_key new) (row_key row) → All P (with_row new (row ∷ rows))
    go ih (below o u) = rw (with_below new row rows o) (n, h)
    go ih (level e) = rw (with_level new row rows e) (n, h.1)
    go ih (above o u) = rw (with_above new row rows o) (h.0, ih)

-- ---- rows that are sound, in order and 200 bytes wide

pub record Fit (rows : List (List ℕ)) : Type 0 where
  pub wide : All IsWide rows
  pub sound : are_sound_rows rows ≡ true

module _ (rows : List (List ℕ)) (s : are_sound_rows rows ≡ true) where
  pub each_sound : every is_sound_row rows ≡ true
  unfolding are_sound_rows
  each_sound = and_left (every is_sound_row rows) (rising (keys_of rows)) s

  pub rows_rise : rising (keys_of rows) ≡ true
  unfolding are_sound_rows
  rows_rise = and_right (every is_sound_row rows) (rising (keys_of rows)) s

-- ---- rows in rising order of key

-- the first row's key is below the next
pub rows_first : (row : List ℕ) (rows : List (List ℕ)) → rising (keys_of (row ∷ rows)) ≡ true → below_first (row_key row) (keys_of rows) ≡ true
unfolding keys_of rising
rows_first row rows r = and_left (below_first (row_key row) (keys_of rows)) (rising (keys_of rows)) r

-- a key that is below or above another is not the same
pub below_other : (a b : List ℕ) → is_less (order_of a b) ≡ true → same_bytes a b ≡ false
unfolding is_equal
below_other a b h = rw (same_order a b, (less_sides a b h).0)

above_other : (a b : List ℕ) → is_less (order_of b a) ≡ true → same_bytes a b ≡ false
unfolding is_equal
above_other a b h = rw (same_order a b, (less_sides b a h).1)

-- a key below a row's is below those behind the row
pub below_behind : (key row : List ℕ) (rows : List (List ℕ)) → is_less (order_of key (row_key row)) ≡ true
    → below_first (row_key row) (keys_of rows) ≡ true → below_first key (keys_of rows) ≡ true
unfolding keys_of below_first
below_behind key row [] h b = refl
below_behind key row (r ∷ rows) h b = less_trans key (row_key row) (row_key r) h b

-- a key below the first has no row
pub below_none : (key : List ℕ) (rows : List (List ℕ)) → below_first key (keys_of rows) ≡ true → rising (keys_of rows) ≡ true
    → row_with key rows ≡ none
unfolding row_with keys_of below_first
below_none key [] b r = refl
below_none key (row ∷ rows) b r =
    found_behind key row rows (above_other (row_key row) key b)
    ∙ below_none key rows (below_behind key row rows b (rows_first row rows r)) (rows_tail row rows r)

-- a row among some that rise is found under its key
pub found_at : (front : List (List ℕ)) (row : List ℕ) (back : List (List ℕ)) → rising (keys_of (front ++ (row ∷ back))) ≡ true
    → row_with (row_key row) (front ++ (row ∷ back)) ≡ some row
found_at [] row back r = found_here (row_key row) row back refl
found_at (x ∷ front) row back r =
    let l : length front < length (front ++ (row ∷ back)) = rw (length-append front (row ∷ back)) (omega arith) in
    let b = rows_head x (front ++ (row ∷ back)) r (length front) l in
    let c : is_less (order_of (row_key x) (row_key row)) ≡ true = rw (get_or-append_seam front row back []) at b in
    found_behind (row_key row) x (front ++ (row ∷ back)) (below_other (row_key x) (row_key row) c)
    ∙ found_at front row back (rows_tail x (front ++ (row ∷ back)) r)

-- ---- the same row, or none, under each key: the same rows

pub some_none : {row : List ℕ} → some row ≡ none → ⊥
some_none e = let z : ◌≡◌ {A = ℕ} 0 1 = cc in omega arith

pub same_rows : (xs ys : List (List ℕ)) → rising (keys_of xs) ≡ true → rising (keys_of ys) ≡ true
    → ((key : List ℕ) → row_with key xs ≡ row_with key ys) → xs ≡ ys
unfolding keys_of below_first row_with is_less
same_rows [] [] r q h = refl
same_rows [] (y ∷ ys) r q h = absurd (some_none (sym (h (row_key y) ∙ found_here (row_key y) y ys refl)))
same_rows (x ∷ xs) [] r q h = absurd (some_none (sym (found_here (row_key x) x xs refl) ∙ h (row_key x)))
same_rows (x ∷ xs) (y ∷ ys) r q h =
    go (same_rows xs ys (rows_tail x xs r) (rows_tail y ys q)) (sides (row_key x) (row_key y))
  where
    -- the key of the first is none's of those that follow
    gone : (key : List ℕ) (rows : List (List ℕ)) → key ≡ row_key x → below_first (row_key x) (keys_of rows) ≡ true
        → rising (keys_of rows) ≡ true → row_with key rows ≡ none
    gone key rows e b t = below_none key rows (rw e b) t

    -- under each key the same in what follows
    tails : row_key x ≡ row_key y → (key : List ℕ) (t : Bool) → same_bytes (row_key x) key ≡ t → row_with key xs ≡ row_with key ys
    tails e key true t =
        let k : key ≡ row_key x = sym (same_eq (row_key x) key t) in
        gone key xs k (rows_first x xs r) (rows_tail x xs r) ∙ sym (gone key ys k (rw e (rows_first y ys q)) (rows_tail y ys q))
    tails e key false t = sym (found_behind key x xs t) ∙ h key ∙ found_behind key y ys (rw e at t)

    go : (((key : List ℕ) → row_with key xs ≡ row_with key ys) → xs ≡ ys) → Sides (row_key x) (row_key y) → x ∷ xs ≡ y ∷ ys
    go ih (below o u) =
        absurd (some_none (sym (found_here (row_key x) x xs refl) ∙ h (row_key x) ∙ below_none (row_key x) (y ∷ ys) (rw o) q))
    go ih (level e) =
        let s : some x ≡ some y = sym (found_here (row_key x) x xs refl) ∙ h (row_key x) ∙ found_here (row_key x) y ys (sym e) in
        let t : xs ≡ ys = ih (λ key. tails e key (same_bytes (row_key x) key) refl) in
        cc
    go ih (above o u) =
        absurd (some_none (sym (found_here (row_key y) y ys refl) ∙ sym (h (row_key y)) ∙ below_none (row_key y) (x ∷ xs) (rw u) r))
