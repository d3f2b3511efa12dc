-- Laws of reading one entry of a journal. Assumes nothing.
use Prim.Native.Nat.{ℕ, ◌+◌, ◌-◌, ◌≤◌, ◌<◌}
use mathlib.Core.Path.{◌≡◌, ap, ◌∙◌}
use mathlib.Core.Bool.{Bool, true, false, cond, ◌&&◌}
use mathlib.Core.List.{List, [], ◌∷◌}
use mathlib.Core.Option.{none, some}
use native.Mathlib.Numerals.{add-one}
use native.Mathlib.Omega.{arith}
use lib.Dec.{leb, eqb}
use lib.ListN.{length, take, drop, get_or, length-drop, drop_of_length-le}
use lib.Seq.{drop-cons, drop-drop}
use borrow.Author.Tests.{ne_eqb, le-leb, lt-leb}
use Rattle.journal.specs.Numbers.{Read, unread, read, read_number}
use Rattle.journal.specs.Journal.{entry, no_entry, one_entry, read_old, read_placed, read_entry}
use Rattle.journal.specs.Reading.{reach, OutOfReach, NumberRead, EntryOutOfReach, EntryFound}
use Rattle.std.specs.Prelude.{None, Some}

-- an entry whose place is out of reach
old_out : (place : ℕ) (bytes : List ℕ) → reach ≤ place → EntryOutOfReach (read_old place bytes)
old_out place [] h = tt
old_out place (mark ∷ bytes) h = go (eqb mark 0) (eqb mark 1 && leb 200 (length bytes))
  where
    go : (s t : Bool)
        → EntryOutOfReach (cond s (one_entry (entry place none) bytes) (cond t (one_entry (entry place (some (take 200 bytes))) (drop 200 bytes)) no_entry))
    go true t = h
    go false true = h
    go false false = tt

entry_out : (bytes : List ℕ) → OutOfReach (read_number bytes) → EntryOutOfReach (read_entry bytes)
unfolding read_entry
entry_out bytes h = go (read_number bytes) h
  where
    go : (r : Read) → OutOfReach r → EntryOutOfReach (read_placed r)
    go unread h = tt
    go (read place behind) h = old_out place behind h

module _ (at : ℕ) (s : List ℕ) where
  -- no number stands there
  pub no_place_lem : OutOfReach (read_number (drop at s)) → EntryOutOfReach (read_entry (drop at s))
  no_place_lem h = entry_out (drop at s) h

  module _ (place i : ℕ) (n : NumberRead at s place i) where
    -- nothing stands behind it
    pub no_mark : length s ≤ i → EntryOutOfReach (read_entry (drop at s))
    unfolding read_entry
    no_mark h = rw (n.is, drop_of_length-le s {i = i} h) tt

    module _ (mark : ℕ) (e : mark ≡ get_or s i 0) (l : i < length s) where
      front : drop i s ≡ mark ∷ drop (i + 1) s
      front = drop-cons s i 0 l ∙ rw (e, add-one i)

      behind-length : length (drop (i + 1) s) ≡ length s - (i + 1)
      behind-length = length-drop (i + 1) s

      pub new_entry : mark ≡ 0 → EntryFound at s place None (i + 1)
      unfolding read_entry
      new_entry z =
          record {
            is = rw (n.is, front, z);
            further = omega (arith, n.further);
            inside = omega arith;
            row_inside = λ row f. cc;
          }

      pub bad_mark : (mark ≡ 0 → ⊥) → (mark ≡ 1 → ⊥) → EntryOutOfReach (read_entry (drop at s))
      unfolding read_entry
      bad_mark y z = rw (n.is, front, ne_eqb mark 0 y, ne_eqb mark 1 z) tt

      pub short_row : (mark ≡ 0 → ⊥) → mark ≡ 1 → length s - i < 201 → EntryOutOfReach (read_entry (drop at s))
      unfolding read_entry
      short_row y z h =
          let f : leb 200 (length (drop (i + 1) s)) ≡ false = lt-leb 200 (length (drop (i + 1) s)) (omega (arith, behind-length)) in
          rw (n.is, front, z, f) tt

      pub old_entry : mark ≡ 1 → 201 ≤ length s - i → EntryFound at s place (Some (i + 1)) (i + 201)
      unfolding read_entry
      old_entry z h =
          let f : leb 200 (length (drop (i + 1) s)) ≡ true = le-leb 200 (length (drop (i + 1) s)) (omega (arith, behind-length)) in
          let g : drop 200 (drop (i + 1) s) ≡ drop (i + 201) s = drop-drop 200 (i + 1) s ∙ ap (λ (x : ℕ). drop x s) (omega_eq i) in
          record {
            is = rw (n.is, front, z, f, g);
            further = omega (arith, n.further);
            inside = omega arith;
            row_inside = λ row f. let e : i + 1 ≡ row = cc in omega arith;
          }
        where
          omega_eq : (i : ℕ) → i + 1 + 200 ≡ i + 201
          omega_eq i = omega arith
