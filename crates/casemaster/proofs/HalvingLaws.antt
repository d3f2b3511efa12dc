-- Laws of a search by halving for the place of a key among rows in rising order. Assumes nothing.
use mathlib.Core.Path.{◌≡◌, refl, sym, ap, ◌∙◌}
use mathlib.Core.Logic.{◌⊎◌, inr, ⊎_elim}
use mathlib.Core.Bool.{Bool, true, false}
use mathlib.Core.List.{List, [], ◌∷◌, ◌++◌}
use mathlib.Core.Option.{none, some}
use Prim.Native.Nat.{ℕ, zero, suc, ◌+◌, ◌-◌, ◌*◌, ◌≤◌, ◌<◌, suc-le-suc}
use native.Mathlib.Nat.{not-suc-le-zero, le_of_suc-le-suc, zero-lt-suc, eq-or-lt_of_le, zero-add}
use native.Mathlib.Omega.{arith}
use lib.Dec.{ltb}
use lib.ListN.{length, take, drop, get_or}
use lib.Seq.{take-take, drop-drop}
use borrow.Author.Count.{below_more}
use borrow.Author.Tests.{ltb-true, ltb-false}
use Rattle.std.specs.List.Sorted.{IsPartitionedBy, IsPartitionPoint}
use Rattle.std.specs.declared.cmp.Ordering.{Ordering}
use Rattle.std.specs.declared.cmp.Ordering.TheVariants.{Less, Equal, Greater}
use Rattle.text.specs.Fields.{same_bytes}
use Rattle.casemaster.specs.Row.{row_key}
use Rattle.casemaster.specs.Master.{rows_of, keys_of, row_in}
use Rattle.casemaster.specs.Rows.{place_with, with_row}
use Rattle.casemaster.specs.Search.{IsGap, KeysRise, Between, AreBelow, is_below_at, inserted}
use Rattle.text.proofs.BlocksLaws.{blocks_get, length-blocks}
use Rattle.casemaster.proofs.SearchLaws.{with_below, with_above, rows_head, rows_tail, place_found_lem}
use Rattle.text.specs.ByteOrder.{order_in, less, equal, greater, order_of, is_less, is_equal, rising}
use Rattle.text.proofs.ByteOrderLaws.{less_sides, less_trans, greater_flip, equal_same, same_order}

-- each row before p has a key below the one given
abbrev pub KeysBelow : List ℕ → List (List ℕ) → ℕ → Type 0
KeysBelow key rows p = (i : ℕ) → i < p → order_of (row_key (get_or rows i [])) key ≡ less

-- each row from p on has a key above the one given
abbrev pub KeysAbove : List ℕ → List (List ℕ) → ℕ → Type 0
KeysAbove key rows p = (i : ℕ) → p ≤ i → i < length rows → order_of (row_key (get_or rows i [])) key ≡ greater

-- of two rows the earlier has the lower key
pub rows_rise : (rows : List (List ℕ)) (i j : ℕ) → rising (keys_of rows) ≡ true → i < j → j < length rows
    → is_less (order_of (row_key (get_or rows i [])) (row_key (get_or rows j []))) ≡ true
rows_rise [] i j r h l = absurd (not-suc-le-zero l)
rows_rise (row ∷ rows) i zero r h l = absurd (not-suc-le-zero h)
rows_rise (row ∷ rows) zero (suc j) r h l = rows_head row rows r j (le_of_suc-le-suc l)
rows_rise (row ∷ rows) (suc i) (suc j) r h l = rows_rise rows i j (rows_tail row rows r) (le_of_suc-le-suc h) (le_of_suc-le-suc l)

-- what follows from the order at place p
module _ (key : List ℕ) (rows : List (List ℕ)) (r : rising (keys_of rows) ≡ true) (p : ℕ) (l : p < length rows) where
  found_less : order_of (row_key (get_or rows p [])) key ≡ less → KeysBelow key rows (p + 1)
  unfolding is_less
  found_less o =
      below_more _ p
      (λ i h.
      (less_sides (row_key (get_or rows i [])) key
      (less_trans (row_key (get_or rows i [])) (row_key (get_or rows p [])) key (rows_rise rows i p r h l) (rw o))).0)
      o

  found_greater : order_of (row_key (get_or rows p [])) key ≡ greater → KeysAbove key rows p
  unfolding is_less
  found_greater o i h k = ⊎_elim (λ e. rw (← e) o) later (eq-or-lt_of_le h)
    where
      later : p < i → order_of (row_key (get_or rows i [])) key ≡ greater
      later b =
          let f : is_less (order_of key (row_key (get_or rows p []))) ≡ true = rw (greater_flip (row_key (get_or rows p [])) key o) in
          (less_sides key (row_key (get_or rows i [])) (less_trans key (row_key (get_or rows p [])) (row_key (get_or rows i [])) f (rows_rise rows p i r b k))).1

  found_equal : order_of (row_key (get_or rows p [])) key ≡ equal → place_with key rows ≡ some p
  unfolding is_equal
  found_equal o = place_found_lem key rows p r l (equal_same (row_key (get_or rows p [])) key (rw o))

-- between the rows below and those above
no_row_there : (key : List ℕ) (rows : List (List ℕ)) → ((i : ℕ) → i < length rows → same_bytes (row_key (get_or rows i [])) key ≡ false)
    → place_with key rows ≡ none
unfolding place_with
no_row_there key [] h = refl
no_row_there key (row ∷ rows) h = rw (h 0 (zero-lt-suc (length rows)), no_row_there key rows (λ i l. h (suc i) (suc-le-suc l)))

goes_in : (new : List ℕ) (rows : List (List ℕ)) (p : ℕ) → p ≤ length rows → KeysBelow (row_key new) rows p → KeysAbove (row_key new) rows p
    → with_row new rows ≡ inserted p new rows
unfolding with_row is_less
goes_in new [] zero l b a = refl
goes_in new [] (suc p) l b a = absurd (not-suc-le-zero l)
goes_in new (row ∷ rows) zero l b a =
    with_below new row rows (greater_flip (row_key row) (row_key new) (a 0 (omega arith) (zero-lt-suc (length rows))))
goes_in new (row ∷ rows) (suc p) l b a =
    let o : order_of (row_key new) (row_key row) ≡ greater = (less_sides (row_key row) (row_key new) (rw (b 0 (zero-lt-suc p)))).1 in
    with_above new row rows o
    ∙ ap (λ (z : List (List ℕ)). row ∷ z)
    (goes_in new rows p (le_of_suc-le-suc l) (λ i h. b (suc i) (suc-le-suc h)) (λ i h k. a (suc i) (suc-le-suc h) (suc-le-suc k)))

found_gap : (key : List ℕ) (rows : List (List ℕ)) (p : ℕ) → p ≤ length rows → KeysBelow key rows p → KeysAbove key rows p → IsGap p key rows
unfolding is_equal
found_gap key rows p l b a =
    record {
      missing = no_row_there key rows (λ i h. rw (same_order (row_key (get_or rows i [])) key) (differs i h));
      within = l;
      goes = λ row e. goes_in row rows p l (rw e b) (rw e a);
    }
  where
    differs : (i : ℕ) → i < length rows → is_equal (order_of (row_key (get_or rows i [])) key) ≡ false
    differs i h = go (ltb i p) refl
      where
        go : (t : Bool) → ltb i p ≡ t → is_equal (order_of (row_key (get_or rows i [])) key) ≡ false
        go true e = rw (b i (ltb-true i p e))
        go false e = rw (a i (ltb-false i p e) h)

-- ---- a turn of the search: o is the order of the key of row p of n, as code cuts it out

module _ (n : ℕ) (m key : List ℕ) (r : rising (keys_of (rows_of n m)) ≡ true) (p : ℕ) (l : p < n) (o : Ordering)
    (e : order_in o ≡ order_of (take 12 (drop (p * 200) m)) key) where
  inside : p < length (rows_of n m)
  inside = rw (length-blocks 200 n m) l

  here : (x : Ordering) → o ≡ x → order_of (row_key (get_or (rows_of n m) p [])) key ≡ order_in x
  here x h = rw (blocks_get 200 n m p l) (rw (take-take 12 200 (drop (p * 200) m) (omega arith)) (sym e ∙ ap order_in h))

  pub turn_less : o ≡ Less → KeysBelow key (rows_of n m) (p + 1)
  turn_less h = found_less key (rows_of n m) r p inside (here Less h)

  pub turn_equal : o ≡ Equal → place_with key (rows_of n m) ≡ some p
  turn_equal h = found_equal key (rows_of n m) r p inside (here Equal h)

  pub turn_greater : o ≡ Greater → KeysAbove key (rows_of n m) p
  turn_greater h = found_greater key (rows_of n m) r p inside (here Greater h)

pub turn_gap : (n : ℕ) (m key : List ℕ) (p : ℕ) → p ≤ n → KeysBelow key (rows_of n m) p → KeysAbove key (rows_of n m) p → IsGap p key (rows_of n m)
turn_gap n m key p l b a = found_gap key (rows_of n m) p (rw (length-blocks 200 n m) l) b a

-- ---- rows from a place on, where keys rise

-- where a row's key is below another, so are those before it
below_earlier : (key : List ℕ) (rows : List (List ℕ)) (i j : ℕ) → rising (keys_of rows) ≡ true → i ≤ j → j < length rows
    → is_less (order_of (row_key (get_or rows j [])) key) ≡ true → is_less (order_of (row_key (get_or rows i [])) key) ≡ true
below_earlier key rows i j r h l b =
    ⊎_elim (λ (e : i ≡ j). rw e b)
    (λ (k : i < j). less_trans (row_key (get_or rows i [])) (row_key (get_or rows j [])) key (rows_rise rows i j r k l) b) (eq-or-lt_of_le h)

module _ (m : List ℕ) (from count : ℕ) where
  -- the key of a row, as code cuts it out
  key_cut : (i : ℕ) → i < count → row_key (get_or (rows_of count (drop (from * 200) m)) i []) ≡ take 12 (drop ((from + i) * 200) m)
  key_cut i l =
      let e : i * 200 + from * 200 ≡ (from + i) * 200 = omega arith in
      rw (blocks_get 200 count (drop (from * 200) m) i l)
      (take-take 12 200 (drop (i * 200) (drop (from * 200) m)) (omega arith)
      ∙ ap (take 12) (drop-drop (i * 200) (from * 200) m ∙ ap (λ (z : ℕ). drop z m) (comm ∙ e)))
    where
      comm : from * 200 + i * 200 ≡ i * 200 + from * 200
      comm = omega arith

  pub keys_rise : (end : ℕ) → end ≤ from + count → rising (keys_of (rows_of count (drop (from * 200) m))) ≡ true → KeysRise m from end
  keys_rise end e r key i j h l b =
      let rows = rows_of count (drop (from * 200) m) in
      let inside : j < length rows = rw (length-blocks 200 count (drop (from * 200) m)) (omega arith) in
      let bj : is_less (order_of (row_key (get_or rows j [])) key) ≡ true = rw (key_cut j (omega arith)) b in
      rw (key_cut i (omega arith)) at (below_earlier key rows i j r h inside bj)

-- rows between those that are known to be below and the first that isn't, of which the first count are below: list holds them
module _ (m : List ℕ) (from end : ℕ) (key : List ℕ) (low high : ℕ) (b : Between m from end key low high) (list : List (List ℕ))
    (rows : (k : ℕ) (d : List ℕ) → from + low + k < from + high → get_or list k d ≡ row_in m (from + low + k)) where
  below_in : (k : ℕ) (d : List ℕ) → low + k < high → is_less (order_of (take 12 (get_or list k d)) key) ≡ is_below_at m (from + (low + k)) key
  below_in k d l =
      let e : from + low + k ≡ from + (low + k) = omega arith in
      rw (rows k d (omega arith), e, take-take 12 200 (drop ((from + (low + k)) * 200) m) (omega arith))

  pub parted : length list ≡ from + high - (from + low) → KeysRise m from end → IsPartitionedBy (λ y. is_less (order_of (take 12 y) key)) list
  parted w r i j d h l t =
      let p : low + j < high = omega (arith, b.order) in
      rw (below_in i d (omega arith))
      (r key (low + i) (low + j) (omega arith) (omega (arith, b.within)) (sym (below_in j d p) ∙ t))

  pub are_below : length list ≡ from + high - (from + low) → (count : ℕ) → count ≤ length list
      → IsPartitionPoint (λ y. is_less (order_of (take 12 y) key) ≡ true) (λ y. is_less (order_of (take 12 y) key) ≡ false) list count
      → AreBelow m from end key (low + count)
  are_below w count h t =
      record {
        within = omega (arith, b.within, b.order);
        below = λ j k. go j k (ltb j low) refl;
        stops = ⊎_elim last (λ k. inr (sym (below_in count [] (omega (arith, b.order))) ∙ t.1 count [] (omega arith) k)) (eq-or-lt_of_le h);
      }
    where
      go : (j : ℕ) → j < low + count → (q : Bool) → ltb j low ≡ q → is_below_at m (from + j) key ≡ true
      go j k true e = b.below j (ltb-true j low e)
      go j k false e =
          let i : ℕ = j - low in
          let z : low + i ≡ j = omega (arith, ltb-false j low e) in
          let s : i < count = omega (arith, ltb-false j low e) in
          rw z at (sym (below_in i [] (omega (arith, b.order))) ∙ t.0 i [] (omega arith) s)

      last : count ≡ length list → (from + (low + count) ≡ end) ⊎ (is_below_at m (from + (low + count)) key ≡ false)
      last e = let z : low + count ≡ high = omega (arith, b.order) in rw z b.stops

-- where all rise, those behind some do
pub rows_behind : (front rows : List (List ℕ)) → rising (keys_of (front ++ rows)) ≡ true → rising (keys_of rows) ≡ true
rows_behind [] rows r = r
rows_behind (row ∷ front) rows r = rows_behind front rows (rows_tail row (front ++ rows) r)

-- of all rows, from any place on
pub rises_from : (m : List ℕ) (n from : ℕ) → rising (keys_of (rows_of n m)) ≡ true → KeysRise m from n
rises_from m n from r key i j h l b =
    let k = keys_rise m 0 n n (omega arith) r key (from + i) (from + j) (omega arith) (rw zero-add l) (rw zero-add b) in
    rw zero-add at k
