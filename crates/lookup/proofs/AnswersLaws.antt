-- Laws of the walk: its answers are the places of the keys, and how often it compares. Assumes nothing.
use Prim.Native.Nat.{ℕ, suc, ◌+◌, ◌≤◌, suc-le-suc}
use mathlib.Core.Path.{◌≡◌, refl, ◌∙◌}
use mathlib.Core.Bool.{true, false}
use mathlib.Core.List.{List, [], ◌∷◌, map}
use mathlib.Core.Option.{Option, none, some}
use native.Mathlib.Nat.{zero-lt-suc}
use native.Mathlib.Omega.{arith}
use lib.ListN.{length}
use Rattle.text.specs.Fields.{same_bytes}
use Rattle.text.specs.ByteOrder.{Order, less, equal, greater, order_of, is_less, is_equal, below_first, rising}
use Rattle.text.proofs.FieldsLaws.{and_left}
use Rattle.text.proofs.ByteOrderLaws.{Sides, below, level, above, sides, less_sides, less_trans, same_order, order_refl, rising_tail}
use Rattle.casemaster.specs.Row.{row_key}
use Rattle.casemaster.specs.Master.{keys_of}
use Rattle.casemaster.specs.Rows.{row_with, place_with, one_more}
use Rattle.casemaster.proofs.SearchLaws.{place_found_lem, place_inside, no_place-row, no_row_place, rows_tail}
use Rattle.casemaster.proofs.RowsLaws.{found_behind, below_none}
use Rattle.lookup.specs.Many.{no_place, one_comparison, answered, by_row, walk}

-- ---- its answers

-- the answer for a key, from the place of the first row and the key's place behind it
abbrev pub place_from : ℕ → Option ℕ → ℕ
place_from first none = no_place
place_from first (some p) = first + p

-- a row that isn't the key's is passed
place_behind_lem : (key row : List ℕ) (rows : List (List ℕ)) → rising (keys_of (row ∷ rows)) ≡ true → same_bytes (row_key row) key ≡ false
    → place_with key (row ∷ rows) ≡ one_more (place_with key rows)
place_behind_lem key row rows r d = go (place_with key rows) refl
  where
    go : (q : Option ℕ) → place_with key rows ≡ q → place_with key (row ∷ rows) ≡ one_more q
    go none e = no_row_place key (row ∷ rows) (found_behind key row rows d ∙ no_place-row key rows e)
    go (some p) e = let i = place_inside key rows p e in place_found_lem key (row ∷ rows) (suc p) r (suc-le-suc i.0) i.1

place_from-next : (first : ℕ) (q : Option ℕ) → place_from (suc first) q ≡ place_from first (one_more q)
place_from-next first none = refl
place_from-next first (some p) = omega arith

-- a row below all keys is passed
row_passed : (row : List ℕ) (rows : List (List ℕ)) (first : ℕ) (keys : List (List ℕ)) → rising (keys_of (row ∷ rows)) ≡ true
    → below_first (row_key row) keys ≡ true → rising keys ≡ true
    → map (λ key. place_from (suc first) (place_with key rows)) keys ≡ map (λ key. place_from first (place_with key (row ∷ rows))) keys
unfolding below_first is_equal rising
row_passed row rows first [] r b s = refl
row_passed row rows first (key ∷ keys) r b s =
    let d : same_bytes (row_key row) key ≡ false = rw (same_order (row_key row) key, (less_sides (row_key row) key b).0) in
    let h : place_from (suc first) (place_with key rows) ≡ place_from first (place_with key (row ∷ rows)) =
    rw (place_behind_lem key row rows r d) (place_from-next first (place_with key rows)) in
    rw (h, row_passed row rows first keys r (lower keys (first_below key keys s)) (rising_tail key keys s))
  where
    first_below : (k : List ℕ) (ks : List (List ℕ)) → rising (k ∷ ks) ≡ true → below_first k ks ≡ true
    first_below k ks t = and_left (below_first k ks) (rising ks) t

    lower : (ks : List (List ℕ)) → below_first key ks ≡ true → below_first (row_key row) ks ≡ true
    lower [] t = refl
    lower (k ∷ ks) t = less_trans (row_key row) key k b t

-- each key's answer is its place
pub answers_are : (keys : List (List ℕ)) (first : ℕ) (rows : List (List ℕ)) → rising keys ≡ true → rising (keys_of rows) ≡ true
    → (walk keys first rows).answers ≡ map (λ key. place_from first (place_with key rows)) keys
unfolding walk row_with keys_of is_less below_first
answers_are [] first rows k r = refl
answers_are (key ∷ keys) first [] k r =
    rw (no_row_place key [] refl, answers_are keys first [] (rising_tail key keys k) r)
answers_are (key ∷ keys) first (row ∷ rows) k r =
    go (answers_are (key ∷ keys) (suc first) rows k (rows_tail row rows r)) (answers_are keys first (row ∷ rows) (rising_tail key keys k) r)
    (sides (row_key row) key)
  where
    go : (walk (key ∷ keys) (suc first) rows).answers ≡ map (λ x. place_from (suc first) (place_with x rows)) (key ∷ keys)
        → (walk keys first (row ∷ rows)).answers ≡ map (λ x. place_from first (place_with x (row ∷ rows))) keys
        → Sides (row_key row) key
        → (walk (key ∷ keys) first (row ∷ rows)).answers ≡ map (λ x. place_from first (place_with x (row ∷ rows))) (key ∷ keys)
    go h g (below o u) = rw o (h ∙ row_passed row rows first (key ∷ keys) r (rw o) k)
    go h g (level e) =
        let o : order_of (row_key row) key ≡ equal = rw e (order_refl key) in
        let z : first + 0 ≡ first = omega arith in
        rw (o, place_found_lem key (row ∷ rows) 0 r (zero-lt-suc (length rows)) e, z, g)
    go h g (above o u) =
        rw (o, no_row_place key (row ∷ rows) (below_none key (row ∷ rows) (rw u) r), g)

-- ---- how often it compares

pub few_made : (keys : List (List ℕ)) (place : ℕ) (rows : List (List ℕ)) → (walk keys place rows).comparisons ≤ length rows + length keys
unfolding walk
few_made [] place rows = omega arith
few_made (key ∷ keys) place [] = let h = few_made keys place [] in omega arith
few_made (key ∷ keys) place (row ∷ rows) =
    go (order_of (row_key row) key) (few_made (key ∷ keys) (suc place) rows) (few_made keys place (row ∷ rows))
  where
    go : (o : Order)
        → (walk (key ∷ keys) (suc place) rows).comparisons ≤ length rows + length (key ∷ keys)
        → (walk keys place (row ∷ rows)).comparisons ≤ length (row ∷ rows) + length keys
        → (one_comparison
        (by_row o (walk (key ∷ keys) (suc place) rows) (answered place (walk keys place (row ∷ rows))) (answered no_place (walk keys place (row ∷ rows))))
        ).comparisons
        ≤ length (row ∷ rows) + length (key ∷ keys)
    go less h g = omega arith
    go equal h g = omega arith
    go greater h g = omega arith
