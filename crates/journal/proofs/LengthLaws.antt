-- How long a journal is: a row put in its place makes at most one more entry, and an entry takes its place's groups and at most 201 bytes.
-- Over any number of groups. Assumes nothing.
use Prim.Native.Nat.{ℕ, suc, ◌+◌, ◌*◌, ◌^◌, ◌≤◌, ◌<◌}
use mathlib.Core.Path.{◌≡◌, refl, sym, ap, subst, ◌∙◌}
use mathlib.Core.Bool.{Bool, true, false, cond}
use mathlib.Core.List.{List, [], ◌∷◌, ◌++◌, append-nil}
use mathlib.Core.Option.{Option, none, some}
use native.Mathlib.Nat.{mul-add, mul-one}
use native.Mathlib.Omega.{arith}
use lib.ListN.{length, length-append}
use Rattle.text.specs.Fields.{same_bytes}
use Rattle.text.specs.ByteOrder.{rising}
use Rattle.text.proofs.ByteOrderLaws.{Sides, below, level, above, sides}
use Rattle.text.proofs.WidthLaws.{All}
use Rattle.casemaster.specs.Row.{row_key}
use Rattle.casemaster.specs.Master.{keys_of}
use Rattle.casemaster.specs.Rows.{row_with, with_row, with_stored}
use Rattle.casemaster.proofs.SearchLaws.{with_below, with_level, with_above}
use Rattle.casemaster.proofs.RowsLaws.{Each, IsWide, found_all}
use Rattle.journal.specs.Numbers.{number_bytes}
use Rattle.journal.specs.Journal.{Entry, entry, entry_of, entries_from, entry_bytes, entries_bytes, journal_of, journal_bytes}
use Rattle.journal.proofs.NumberLaws.{number-length}
use Rattle.journal.proofs.WritingLaws.{length_new, length_old, AreKept, kept_entries, middle_kept, bytes_append}

-- ---- how many entries

one_at_most : (p : ℕ) (o : Option (List ℕ)) (row : List ℕ) → length (entry_of p o row) ≤ 1
one_at_most p none row = omega arith
one_at_most p (some old) row = go (same_bytes old row)
  where
    go : (t : Bool) → length (cond t [] (entry p (some old) ∷ [])) ≤ 1
    go true = omega arith
    go false = omega arith

-- whatever the place
same_one : (p q : ℕ) (o : Option (List ℕ)) (row : List ℕ) → length (entry_of p o row) ≡ length (entry_of q o row)
same_one p q none row = refl
same_one p q (some old) row = go (same_bytes old row)
  where
    go : (t : Bool) → length (cond t [] (entry p (some old) ∷ [])) ≡ length (cond t [] (entry q (some old) ∷ []))
    go true = refl
    go false = refl

module _ (old : List (List ℕ)) where
  abbrev pub entry_count : List (List ℕ) → ℕ
  entry_count rows = length (entries_from 0 old rows)

  abbrev own : List ℕ → ℕ
  own row = length (entry_of 0 (row_with (row_key row) old) row)

  same_count : (p q : ℕ) (rows : List (List ℕ)) → length (entries_from p old rows) ≡ length (entries_from q old rows)
  unfolding entries_from
  same_count p q [] = refl
  same_count p q (row ∷ rows) =
      length-append (entry_of p (row_with (row_key row) old) row) (entries_from (suc p) old rows)
      ∙ omega (
        arith,
        same_one p q (row_with (row_key row) old) row,
        same_count (suc p) (suc q) rows,
        length-append (entry_of q (row_with (row_key row) old) row) (entries_from (suc q) old rows),
      )

  count_cons : (row : List ℕ) (rows : List (List ℕ)) → entry_count (row ∷ rows) ≡ own row + entry_count rows
  unfolding entries_from
  count_cons row rows =
      length-append (entry_of 0 (row_with (row_key row) old) row) (entries_from 1 old rows) ∙ omega (arith, same_count 1 0 rows)

  own_low : (row : List ℕ) → own row ≤ 1
  own_low row = one_at_most 0 (row_with (row_key row) old) row

  count_none : entry_count [] ≡ 0
  unfolding entries_from
  count_none = refl

  -- a row put in its place
  count_put : (new : List ℕ) (rows : List (List ℕ)) → entry_count (with_row new rows) ≤ suc (entry_count rows)
  unfolding with_row
  count_put new [] = omega (arith, count_cons new [], own_low new, count_none)
  count_put new (row ∷ rows) = go (count_put new rows) (sides (row_key new) (row_key row))
    where
      go : entry_count (with_row new rows) ≤ suc (entry_count rows) → Sides (row_key new) (row_key row)
          → entry_count (with_row new (row ∷ rows)) ≤ suc (entry_count (row ∷ rows))
      go ih (below o u) = rw (with_below new row rows o) (omega (arith, count_cons new (row ∷ rows), own_low new))
      go ih (level e) = rw (with_level new row rows e) (omega (arith, count_cons new rows, own_low new, count_cons row rows))
      go ih (above o u) =
          rw (with_above new row rows o) (omega (arith, ih, count_cons row (with_row new rows), count_cons row rows))

  pub count_stored : (o : Option (List ℕ)) (rows : List (List ℕ)) → entry_count (with_stored o rows) ≤ suc (entry_count rows)
  count_stored none rows = omega arith
  count_stored (some row) rows = count_put row rows

  -- rows that are as they were have none
  pub count_start : rising (keys_of old) ≡ true → entry_count old ≡ 0
  count_start r =
      let e : old ++ [] ≡ old = append-nil old in
      let k : AreKept old old = subst (λ (x : List (List ℕ)). AreKept x old) e (middle_kept [] old [] (subst (λ (x : List (List ℕ)). rising (keys_of x) ≡ true) (sym e) r)) in
      ap length (kept_entries 0 old old k)

-- ---- how many bytes

pub one_bytes : (e : Entry) → entries_bytes (e ∷ []) ≡ entry_bytes e
unfolding entries_bytes
one_bytes e = append-nil (entry_bytes e)

pub no_bytes : entries_bytes [] ≡ []
unfolding entries_bytes
no_bytes = refl

module _ (k : ℕ) where
  own_bytes : (p : ℕ) (o : Option (List ℕ)) (row : List ℕ) → p < 128 ^ suc k → Each IsWide o
      → length (entries_bytes (entry_of p o row)) ≤ (suc k + 201) * length (entry_of p o row)
  own_bytes p none row h w = rw (one_bytes (entry p none)) (omega (arith, length_new p, number-length k p h, mul-one (suc k + 201)))
  own_bytes p (some old) row h w = go (same_bytes old row)
    where
      go : (t : Bool) → length (entries_bytes (cond t [] (entry p (some old) ∷ []))) ≤ (suc k + 201) * length (cond t [] (entry p (some old) ∷ []))
      go true = rw no_bytes (omega arith)
      go false = rw (one_bytes (entry p (some old))) (omega (arith, length_old p old, number-length k p h, mul-one (suc k + 201), w))

  entries_length : (old : List (List ℕ)) → All IsWide old → (p : ℕ) (rows : List (List ℕ)) → p + length rows ≤ 128 ^ suc k
      → length (entries_bytes (entries_from p old rows)) ≤ (suc k + 201) * length (entries_from p old rows)
  unfolding entries_from
  entries_length old w p [] h = rw no_bytes (omega arith)
  entries_length old w p (row ∷ rows) h =
      let es : List Entry = entry_of p (row_with (row_key row) old) row in
      let fs : List Entry = entries_from (suc p) old rows in
      let a = own_bytes p (row_with (row_key row) old) row (omega arith) (found_all IsWide (row_key row) old w) in
      let b = entries_length old w (suc p) rows (omega arith) in
      rw (bytes_append es fs, length-append es fs)
      (omega (arith, a, b, length-append (entries_bytes es) (entries_bytes fs), mul-add (suc k + 201) (length es) (length fs)))

  -- counts and entries
  pub journal-length : (old new : List (List ℕ)) → All IsWide old → length old < 128 ^ suc k → length new < 128 ^ suc k
      → length (journal_bytes (journal_of old new)) ≤ suc k + suc k + (suc k + 201) * entry_count old new
  unfolding journal_bytes journal_of
  journal-length old new w f g =
      let a = number_bytes (length old) in
      let b = number_bytes (length new) in
      let c = entries_bytes (entries_from 0 old new) in
      omega (
        arith,
        length-append a (b ++ c),
        length-append b c,
        number-length k (length old) f,
        number-length k (length new) g,
        entries_length old w 0 new (omega arith),
      )
