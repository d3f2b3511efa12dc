-- Laws of the journal's byte form: what is written is read again, and only what is written so is read. Assumes nothing.
use Prim.Native.Nat.{ℕ, zero, suc, ◌≤◌, ◌<◌}
use mathlib.Core.Path.{◌≡◌, refl, sym, ap, ◌∙◌}
use mathlib.Core.Bool.{Bool, true, false, cond, ◌&&◌}
use mathlib.Core.List.{List, [], ◌∷◌, ◌++◌, append_assoc}
use mathlib.Core.Option.{Option, none, some}
use native.Mathlib.Nat.{not-suc-le-zero}
use native.Mathlib.Omega.{arith}
use lib.Dec.{leb, eqb}
use lib.ListN.{length, take, drop, length-append, length-drop}
use lib.Seq.{take_at, drop_at}
use borrow.Author.Tests.{le-leb}
use Rattle.casemaster.proofs.RowsLaws.{Each, IsWide, found_all}
use Rattle.text.proofs.WidthLaws.{All}
use Rattle.text.specs.Fields.{same_bytes}
use Rattle.casemaster.specs.Row.{row_key}
use Rattle.casemaster.specs.Rows.{row_with}
use Rattle.journal.specs.Numbers.{number_bytes, Read, unread, read, read_number}
use Rattle.journal.specs.Journal.{Entry, entry, Journal, entry_of, entries_from, journal_of, old_bytes, entry_bytes, entries_bytes, journal_bytes, ReadEntry, no_entry, one_entry, read_old, read_placed, read_entry, before_others, entries_behind, entries_up_to, entries_in, journal_in}
use Rattle.journal.proofs.NumberLaws.{read_number_lem, read_shorter}

-- the old row of each entry, where there is one, is 200 bytes
abbrev pub AllWide : List Entry → Type 0
AllWide [] = Unit {0}
AllWide (e ∷ es) = Each IsWide e.old × AllWide es

-- ---- an entry

pub read-entry : (e : Entry) (behind : List ℕ) → Each IsWide e.old → read_entry (entry_bytes e ++ behind) ≡ one_entry e behind
unfolding read_entry entry_bytes
read-entry e behind w =
    rw (append_assoc (number_bytes e.place) (old_bytes e.old) behind, read_number_lem e.place (old_bytes e.old ++ behind))
    (go e.old w)
  where
    go : (o : Option (List ℕ)) → Each IsWide o → read_old e.place (old_bytes o ++ behind) ≡ one_entry (entry e.place o) behind
    go none w = refl
    go (some row) w =
        let l : 200 ≤ length (row ++ behind) = rw (length-append row behind) (omega arith) in
        rw (le-leb 200 (length (row ++ behind)) l, take_at row behind 200 w, drop_at row behind 200 w)

-- what is behind an entry is shorter
pub entry_shorter : (bytes : List ℕ) (e : Entry) (behind : List ℕ) → read_entry bytes ≡ one_entry e behind → length behind < length bytes
unfolding read_entry
entry_shorter bytes e behind f = placed (read_number bytes) refl f
  where
    marked : (place mark : ℕ) (rest : List ℕ) (s t : Bool) → length (mark ∷ rest) < length bytes
        → cond s (one_entry (entry place none) rest) (cond t (one_entry (entry place (some (take 200 rest))) (drop 200 rest)) no_entry) ≡ one_entry e behind
        → length behind < length bytes
    marked place mark rest true t l f = let z : rest ≡ behind = cc in rw (← z) (omega arith)
    marked place mark rest false true l f = let z : drop 200 rest ≡ behind = cc in rw (← z, length-drop 200 rest) (omega arith)
    marked place mark rest false false l f = let z : ◌≡◌ {A = ℕ} 0 1 = cc in absurd (omega arith)

    old : (place : ℕ) (rest : List ℕ) → length rest < length bytes → read_old place rest ≡ one_entry e behind → length behind < length bytes
    old place [] l f = let z : ◌≡◌ {A = ℕ} 0 1 = cc in absurd (omega arith)
    old place (mark ∷ rest) l f = marked place mark rest (eqb mark 0) (eqb mark 1 && leb 200 (length rest)) l f

    placed : (r : Read) → read_number bytes ≡ r → read_placed r ≡ one_entry e behind → length behind < length bytes
    placed unread g f = let z : ◌≡◌ {A = ℕ} 0 1 = cc in absurd (omega arith)
    placed (read place rest) g f = old place rest (read_shorter bytes place rest g) f

-- ---- entries to the end

entries_step : (most : ℕ) (bytes : List ℕ) → 1 ≤ length bytes → entries_up_to (suc most) bytes ≡ entries_behind (λ b. entries_up_to most b) (read_entry bytes)
unfolding entries_up_to
entries_step most [] h = absurd (omega arith)
entries_step most (b ∷ bs) h = refl

entries_empty : (most : ℕ) → entries_up_to most [] ≡ some []
unfolding entries_up_to
entries_empty zero = refl
entries_empty (suc most) = refl

-- more than enough is as good as enough
entries_same : (j k : ℕ) (bytes : List ℕ) → length bytes ≤ j → length bytes ≤ k → entries_up_to j bytes ≡ entries_up_to k bytes
entries_same zero zero bytes a b = refl
entries_same zero (suc k) [] a b = entries_empty zero ∙ sym (entries_empty (suc k))
entries_same zero (suc k) (x ∷ xs) a b = absurd (not-suc-le-zero a)
entries_same (suc j) zero [] a b = entries_empty (suc j) ∙ sym (entries_empty zero)
entries_same (suc j) zero (x ∷ xs) a b = absurd (not-suc-le-zero b)
entries_same (suc j) (suc k) [] a b = entries_empty (suc j) ∙ sym (entries_empty (suc k))
entries_same (suc j) (suc k) (x ∷ xs) a b =
    entries_step j (x ∷ xs) (omega arith)
    ∙ go (read_entry (x ∷ xs)) refl (λ bs m n. entries_same j k bs m n)
    ∙ sym (entries_step k (x ∷ xs) (omega arith))
  where
    go : (r : ReadEntry) → read_entry (x ∷ xs) ≡ r
        → ((bs : List ℕ) → length bs ≤ j → length bs ≤ k → entries_up_to j bs ≡ entries_up_to k bs)
        → entries_behind (λ b. entries_up_to j b) r ≡ entries_behind (λ b. entries_up_to k b) r
    go no_entry e ih = refl
    go (one_entry y bs) e ih =
        let l : length bs < suc (length xs) = entry_shorter (x ∷ xs) y bs e in
        rw (ih bs (omega arith) (omega arith))

module _ (bytes : List ℕ) where
  pub entries_none : length bytes ≡ 0 → entries_in bytes ≡ some []
  unfolding entries_in
  entries_none e = go bytes e
    where
      go : (b : List ℕ) → length b ≡ 0 → entries_up_to (length b) b ≡ some []
      go [] e = entries_empty zero
      go (x ∷ xs) e = absurd (omega arith)

  -- no entry at the front
  pub entries_bad : 1 ≤ length bytes → read_entry bytes ≡ no_entry → entries_in bytes ≡ none
  unfolding entries_in
  entries_bad l f = go (length bytes) refl
    where
      go : (n : ℕ) → length bytes ≡ n → entries_up_to n bytes ≡ none
      go zero e = absurd (omega arith)
      go (suc n) e = entries_step n bytes l ∙ rw f

  -- an entry and those behind it
  pub entries_next : (e : Entry) (behind : List ℕ) → read_entry bytes ≡ one_entry e behind → entries_in bytes ≡ before_others e (entries_in behind)
  unfolding entries_in
  entries_next e behind f = go (length bytes) refl
    where
      s : length behind < length bytes
      s = entry_shorter bytes e behind f

      go : (n : ℕ) → length bytes ≡ n → entries_up_to n bytes ≡ before_others e (entries_up_to (length behind) behind)
      go zero g = absurd (omega (arith, s))
      go (suc n) g =
          entries_step n bytes (omega (arith, s))
          ∙ rw f (ap (before_others e) (entries_same n (length behind) behind (omega (arith, s)) (omega arith)))

-- entries that were written are read again
pub entries_read : (es : List Entry) → AllWide es → entries_in (entries_bytes es) ≡ some es
unfolding entries_bytes
entries_read [] w = entries_none [] refl
entries_read (e ∷ es) w =
    entries_next (entry_bytes e ++ entries_bytes es) e (entries_bytes es) (read-entry e (entries_bytes es) w.0)
    ∙ rw (entries_read es w.1)

pub journal-read : (j : Journal) → AllWide j.entries → journal_in (journal_bytes j) ≡ some j
unfolding journal_in journal_bytes
journal-read j w =
    rw (
      read_number_lem j.before (number_bytes j.after ++ entries_bytes j.entries),
      read_number_lem j.after (entries_bytes j.entries),
      entries_read j.entries w,
    )

-- the entries of a batch have rows of 200 bytes
pub entries_wide : (p : ℕ) (old rows : List (List ℕ)) → All IsWide old → AllWide (entries_from p old rows)
unfolding entries_from
entries_wide p old [] w = tt
entries_wide p old (row ∷ rows) w = go (row_with (row_key row) old) (found_all IsWide (row_key row) old w) (entries_wide (suc p) old rows w)
  where
    es : List Entry
    es = entries_from (suc p) old rows

    changed : (was : List ℕ) (t : Bool) → IsWide was → AllWide es → AllWide (cond t [] (entry p (some was) ∷ []) ++ es)
    changed was true v ih = ih
    changed was false v ih = (v, ih)

    go : (o : Option (List ℕ)) → Each IsWide o → AllWide es → AllWide (entry_of p o row ++ es)
    go none v ih = (tt, ih)
    go (some was) v ih = changed was (same_bytes was row) v ih

pub journal_own_read : (old new : List (List ℕ)) → All IsWide old → journal_in (journal_bytes (journal_of old new)) ≡ some (journal_of old new)
unfolding journal_of
journal_own_read old new w = journal-read (journal_of old new) (entries_wide zero old new w)
