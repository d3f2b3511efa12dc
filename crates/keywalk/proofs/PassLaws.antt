-- Rows parted at a key: those in front have keys below it. What is found under the key, and where its row goes. Assumes nothing.
use Prim.Native.Nat.{ℕ}
use mathlib.Core.Path.{◌≡◌, refl, sym, ap, ◌∙◌}
use mathlib.Core.Bool.{Bool, true, false, cond}
use mathlib.Core.List.{List, [], ◌∷◌, ◌++◌}
use mathlib.Core.Option.{Option, none, some}
use Rattle.text.specs.Options.{one_or_none}
use Rattle.text.specs.Fields.{same_bytes}
use Rattle.casemaster.proofs.HalvingLaws.{rows_behind}
use Rattle.casemaster.specs.Row.{row_key}
use Rattle.casemaster.specs.Rows.{row_with, with_row, with_stored}
use Rattle.casemaster.specs.Master.{keys_of}
use Rattle.casemaster.proofs.SearchLaws.{with_above, with_level, with_below}
use Rattle.text.proofs.SameLaws.{same_eq}
use Rattle.text.proofs.WidthLaws.{All}
use Rattle.casemaster.proofs.RowsLaws.{found_here, found_behind, below_none, below_other}
use Rattle.text.specs.ByteOrder.{order_of, is_less, below_first, rising}
use Rattle.text.proofs.ByteOrderLaws.{less_sides, not_less_flip, same_order, less_trans}

-- each row's key is below a key
abbrev pub AllBelow : List ℕ → List (List ℕ) → Type 0
AllBelow key rows = All (λ (row : List ℕ). is_less (order_of (row_key row) key) ≡ true) rows

pub below_append : (key : List ℕ) (xs ys : List (List ℕ)) → AllBelow key xs → AllBelow key ys → AllBelow key (xs ++ ys)
below_append key [] ys a b = b
below_append key (x ∷ xs) ys a b = (a.0, below_append key xs ys a.1 b)

pub below_more : (key above : List ℕ) (xs : List (List ℕ)) → is_less (order_of key above) ≡ true → AllBelow key xs → AllBelow above xs
below_more key above [] l a = tt
below_more key above (x ∷ xs) l a = (less_trans (row_key x) key above a.0 l, below_more key above xs l a.1)

-- the first of some rows isn't below a key
abbrev pub FirstNotBelow : List ℕ → List (List ℕ) → Type 0
FirstNotBelow key [] = Unit {0}
FirstNotBelow key (row ∷ rows) = is_less (order_of (row_key row) key) ≡ false

-- the first of some rows has a key
abbrev pub is_key_of : List ℕ → List (List ℕ) → Bool
is_key_of key [] = false
is_key_of key (row ∷ rows) = same_bytes (row_key row) key

module _ (key : List ℕ) where
  pub find_front : (front back : List (List ℕ)) → AllBelow key front → row_with key (front ++ back) ≡ row_with key back
  find_front [] back a = refl
  find_front (row ∷ front) back a =
      found_behind key row (front ++ back) (below_other (row_key row) key a.0) ∙ find_front front back a.1

  pub put_front : (new : List ℕ) (front back : List (List ℕ)) → row_key new ≡ key → AllBelow key front
      → with_row new (front ++ back) ≡ front ++ with_row new back
  put_front new [] back k a = refl
  put_front new (row ∷ front) back k a =
      with_above new row (front ++ back) (rw k (less_sides (row_key row) key a.0).1) ∙ ap (λ (x : List (List ℕ)). row ∷ x) (put_front new front back k a.1)

  -- the key is below the first of the rows behind, where none of them has it
  pub below_back : (back : List (List ℕ)) → FirstNotBelow key back → is_key_of key back ≡ false → below_first key (keys_of back) ≡ true
  unfolding keys_of below_first
  below_back [] n f = refl
  below_back (row ∷ back) n f = not_less_flip (row_key row) key n (sym (same_order (row_key row) key) ∙ f)

  pub missing_back : (back : List (List ℕ)) → rising (keys_of back) ≡ true → FirstNotBelow key back → is_key_of key back ≡ false → row_with key back ≡ none
  missing_back back r n f = below_none key back (below_back back n f) r

  pub put_missing : (new : List ℕ) (back : List (List ℕ)) → row_key new ≡ key → FirstNotBelow key back → is_key_of key back ≡ false
      → with_row new back ≡ new ∷ back
  unfolding with_row
  put_missing new [] k n f = refl
  put_missing new (row ∷ back) k n f =
      with_below new row back (rw k (less_sides key (row_key row) (not_less_flip (row_key row) key n (sym (same_order (row_key row) key) ∙ f))).0)

-- ---- rows parted at a key

-- the first of some rows where it has a key
abbrev pub first_of : List ℕ → List (List ℕ) → Option (List ℕ)
first_of key [] = none
first_of key (row ∷ rows) = cond (same_bytes (row_key row) key) (some row) none

-- the rows behind a key's row
abbrev pub behind_key : List ℕ → List (List ℕ) → List (List ℕ)
behind_key key [] = []
behind_key key (row ∷ rows) = cond (same_bytes (row_key row) key) rows (row ∷ rows)

module _ (key : List ℕ) (front back : List (List ℕ)) (a : AllBelow key front) (n : FirstNotBelow key back)
    (r : rising (keys_of (front ++ back)) ≡ true) where
  pub parted_find : row_with key (front ++ back) ≡ first_of key back
  unfolding row_with
  parted_find = find_front key front back a ∙ go back n (rows_behind front back r)
    where
      go : (bs : List (List ℕ)) → FirstNotBelow key bs → rising (keys_of bs) ≡ true → row_with key bs ≡ first_of key bs
      go [] m s = refl
      go (row ∷ bs) m s = by (same_bytes (row_key row) key) refl
        where
          by : (t : Bool) → same_bytes (row_key row) key ≡ t → row_with key (row ∷ bs) ≡ cond t (some row) none
          by true e = found_here key row bs (same_eq (row_key row) key e)
          by false e = missing_back key (row ∷ bs) s m e

  pub parted-put : (new : List ℕ) → row_key new ≡ key → with_row new (front ++ back) ≡ front ++ (new ∷ behind_key key back)
  unfolding with_row
  parted-put new k = put_front key new front back k a ∙ ap (λ (x : List (List ℕ)). front ++ x) (go back n)
    where
      go : (bs : List (List ℕ)) → FirstNotBelow key bs → with_row new bs ≡ new ∷ behind_key key bs
      go [] m = refl
      go (row ∷ bs) m = by (same_bytes (row_key row) key) refl
        where
          by : (t : Bool) → same_bytes (row_key row) key ≡ t → with_row new (row ∷ bs) ≡ new ∷ cond t bs (row ∷ bs)
          by true e = with_level new row bs (k ∙ sym (same_eq (row_key row) key e))
          by false e = put_missing key new (row ∷ bs) k m e

  -- the row or none that the machine leaves, put back; a row that was there is there still
  pub parted-stored : (stored : Option (List ℕ)) → ((row : List ℕ) → stored ≡ some row → row_key row ≡ key)
      → (stored ≡ none → is_key_of key back ≡ false) → with_stored stored (front ++ back) ≡ front ++ (one_or_none stored ++ behind_key key back)
  parted-stored none k s = ap (λ (x : List (List ℕ)). front ++ x) (go back (s refl))
    where
      go : (bs : List (List ℕ)) → is_key_of key bs ≡ false → bs ≡ behind_key key bs
      go [] f = refl
      go (row ∷ bs) f = rw f
  parted-stored (some new) k s = parted-put new (k new refl)
