-- Taking a batch back with its own journal, from the rows it left, gives the rows at entry, and the journal fits them. Over rows alone, of any
-- number. Assumes nothing.
use Prim.Native.Nat.{ℕ, zero, suc, ◌+◌, ◌≤◌, ◌<◌}
use mathlib.Core.Path.{◌≡◌, refl, sym, ◌∙◌}
use mathlib.Core.Bool.{Bool, true, false, cond, ◌&&◌}
use mathlib.Core.List.{List, [], ◌∷◌, ◌++◌}
use mathlib.Core.Option.{Option, none, some}
use native.Mathlib.Omega.{arith}
use lib.Dec.{eqb}
use lib.ListN.{length}
use borrow.Author.Tests.{ne_eqb, eq-eqb, lt-ltb, le-leb}
use Rattle.text.specs.Fields.{same_bytes}
use Rattle.text.specs.Options.{one_or_none}
use Rattle.text.specs.ByteOrder.{less, order_of, is_less, below_first, rising}
use Rattle.text.proofs.BoolLaws.{and_both}
use Rattle.text.proofs.SameLaws.{same_eq}
use Rattle.text.proofs.ByteOrderLaws.{Sides, below, level, above, sides}
use Rattle.casemaster.specs.Row.{row_key}
use Rattle.casemaster.specs.Master.{keys_of, are_sound_rows}
use Rattle.casemaster.specs.Rows.{row_with}
use Rattle.casemaster.proofs.RowsLaws.{found_here, found_behind, rows_first, below_other, below_behind, below_none, some_none}
use Rattle.casemaster.proofs.SearchLaws.{rows_tail}
use Rattle.journal.specs.Journal.{Entry, entry, entry_of, entries_from, journal_of}
use Rattle.takeback.specs.Restored.{restored_from, restored, places_rise, places_below, new_marks, fits, can_take_back}
use Rattle.takeback.specs.Theorem.{Follows}

-- ---- the rows at entry under the keys of the rows at the end

abbrev old_of : List (List ℕ) → List (List ℕ) → List (List ℕ)
old_of old [] = []
old_of old (row ∷ rows) = one_or_none (row_with (row_key row) old) ++ old_of old rows

-- a row before the place of each entry stays
pub stays_before : (p q : ℕ) (old rest : List (List ℕ)) (row : List ℕ) (rows : List (List ℕ)) → p < q
    → restored_from p (entries_from q old rest) (row ∷ rows) ≡ row ∷ restored_from (suc p) (entries_from q old rest) rows
unfolding restored_from entries_from
stays_before p q old [] row rows h = refl
stays_before p q old (r ∷ rest) row rows h = go (row_with (row_key r) old) (stays_before p (suc q) old rest row rows (omega arith))
  where
    ne : eqb q p ≡ false
    ne = ne_eqb q p (λ e. omega arith)

    es : List Entry
    es = entries_from (suc q) old rest

    changed : (was : List ℕ) (t : Bool) → restored_from p es (row ∷ rows) ≡ row ∷ restored_from (suc p) es rows
        → restored_from p (cond t [] (entry q (some was) ∷ []) ++ es) (row ∷ rows) ≡ row ∷ restored_from (suc p) (cond t [] (entry q (some was) ∷ []) ++ es) rows
    changed was true ih = ih
    changed was false ih = rw ne

    go : (o : Option (List ℕ)) → restored_from p es (row ∷ rows) ≡ row ∷ restored_from (suc p) es rows
        → restored_from p (entry_of q o r ++ es) (row ∷ rows) ≡ row ∷ restored_from (suc p) (entry_of q o r ++ es) rows
    go none ih = rw ne
    go (some was) ih = changed was (same_bytes was r) ih

-- what is left are the rows at entry under the keys of the rows at the end
taken_old : (p : ℕ) (old rows : List (List ℕ)) → restored_from p (entries_from p old rows) rows ≡ old_of old rows
unfolding restored_from entries_from
taken_old p old [] = refl
taken_old p old (row ∷ rows) = go (row_with (row_key row) old) (taken_old (suc p) old rows)
  where
    eq : eqb p p ≡ true
    eq = eq-eqb p p refl

    es : List Entry
    es = entries_from (suc p) old rows

    changed : (was : List ℕ) (t : Bool) → same_bytes was row ≡ t → restored_from (suc p) es rows ≡ old_of old rows
        → restored_from p (cond t [] (entry p (some was) ∷ []) ++ es) (row ∷ rows) ≡ was ∷ old_of old rows
    changed was true t ih =
        let e : was ≡ row = same_eq was row t in
        stays_before p (suc p) old rows row rows (omega arith) ∙ rw (e, ih)
    changed was false t ih = rw (eq, ih)

    go : (o : Option (List ℕ)) → restored_from (suc p) es rows ≡ old_of old rows
        → restored_from p (entry_of p o row ++ es) (row ∷ rows) ≡ one_or_none o ++ old_of old rows
    go none ih = rw (eq, ih)
    go (some was) ih = changed was (same_bytes was row) refl ih

-- ---- they are all rows at entry

-- a row at entry whose key is below the rest makes no difference there
old_behind : (o : List ℕ) (os rows : List (List ℕ)) → below_first (row_key o) (keys_of rows) ≡ true → rising (keys_of rows) ≡ true
    → old_of (o ∷ os) rows ≡ old_of os rows
unfolding keys_of below_first
old_behind o os [] b r = refl
old_behind o os (row ∷ rows) b r =
    rw (
      found_behind (row_key row) o os (below_other (row_key o) (row_key row) b),
      old_behind o os rows (below_behind (row_key o) row rows b (rows_first row rows r)) (rows_tail row rows r),
    )

less_first : (key row : List ℕ) (rows : List (List ℕ)) → order_of key (row_key row) ≡ less → below_first key (keys_of (row ∷ rows)) ≡ true
unfolding keys_of below_first is_less
less_first key row rows e = rw e

old_none : (rows : List (List ℕ)) → old_of [] rows ≡ []
unfolding row_with
old_none [] = refl
old_none (row ∷ rows) = old_none rows

nothing_with : (key : List ℕ) → row_with key [] ≡ none
unfolding row_with
nothing_with key = refl

old_all : (new old : List (List ℕ)) → rising (keys_of old) ≡ true → rising (keys_of new) ≡ true
    → ((key : List ℕ) → row_with key new ≡ none → row_with key old ≡ none) → old_of old new ≡ old
old_all [] [] r q h = refl
old_all [] (o ∷ os) r q h = absurd (some_none (sym (found_here (row_key o) o os refl) ∙ h (row_key o) (nothing_with (row_key o))))
old_all (n ∷ ns) [] r q h = old_none (n ∷ ns)
old_all (n ∷ ns) (o ∷ os) r q h =
    go (old_all ns os (rows_tail o os r) (rows_tail n ns q)) (old_all ns (o ∷ os) r (rows_tail n ns q)) (sides (row_key o) (row_key n))
  where
    -- without the first of each
    both : row_key o ≡ row_key n → (key : List ℕ) → row_with key ns ≡ none → (t : Bool) → same_bytes (row_key n) key ≡ t → row_with key os ≡ none
    both e key f true t =
        let k : key ≡ row_key o = sym (e ∙ same_eq (row_key n) key t) in
        below_none key os (rw k (rows_first o os r)) (rows_tail o os r)
    both e key f false t =
        sym (found_behind key o os (rw e t)) ∙ h key (found_behind key n ns t ∙ f)

    -- without a new one
    one : row_with (row_key n) (o ∷ os) ≡ none → (key : List ℕ) → row_with key ns ≡ none → (t : Bool) → same_bytes (row_key n) key ≡ t
        → row_with key (o ∷ os) ≡ none
    one e key f true t = let k : row_key n ≡ key = same_eq (row_key n) key t in rw k at e
    one e key f false t = h key (found_behind key n ns t ∙ f)

    go : (((key : List ℕ) → row_with key ns ≡ none → row_with key os ≡ none) → old_of os ns ≡ os)
        → (((key : List ℕ) → row_with key ns ≡ none → row_with key (o ∷ os) ≡ none) → old_of (o ∷ os) ns ≡ o ∷ os)
        → Sides (row_key o) (row_key n) → old_of (o ∷ os) (n ∷ ns) ≡ o ∷ os
    go ih jh (below x y) =
        absurd (some_none (sym (found_here (row_key o) o os refl) ∙ h (row_key o) (below_none (row_key o) (n ∷ ns) (less_first (row_key o) n ns x) q)))
    go ih jh (level e) =
        rw (
          found_here (row_key n) o os e,
          old_behind o os ns (rw e (rows_first n ns q)) (rows_tail n ns q),
          ih (λ key f. both e key f (same_bytes (row_key n) key) refl),
        )
    go ih jh (above x y) =
        let e : row_with (row_key n) (o ∷ os) ≡ none = below_none (row_key n) (o ∷ os) (less_first (row_key n) o os y) r in
        rw e (jh (λ key f. one e key f (same_bytes (row_key n) key) refl))

-- ---- the theorem

module _ (old new : List (List ℕ)) (f : Follows old new) where
  -- taking back what the journal says gives the rows at entry
  pub taken_back_lem : restored (journal_of old new) new ≡ old
  unfolding journal_of
  taken_back_lem = taken_old zero old new ∙ old_all new old f.old_rise f.new_rise f.stays

-- ---- the journal passes every test

-- the places rise
places_rise_lem : (q p : ℕ) (old rows : List (List ℕ)) → q ≤ p → places_rise q (entries_from p old rows) ≡ true
unfolding places_rise entries_from
places_rise_lem q p old [] h = refl
places_rise_lem q p old (row ∷ rows) h =
    go (row_with (row_key row) old) (places_rise_lem (suc p) (suc p) old rows (omega arith)) (places_rise_lem q (suc p) old rows (omega arith))
  where
    es : List Entry
    es = entries_from (suc p) old rows

    changed : (was : List ℕ) (t : Bool) → places_rise (suc p) es ≡ true → places_rise q es ≡ true
        → places_rise q (cond t [] (entry p (some was) ∷ []) ++ es) ≡ true
    changed was true ih jh = jh
    changed was false ih jh = rw (le-leb q p h, ih)

    go : (o : Option (List ℕ)) → places_rise (suc p) es ≡ true → places_rise q es ≡ true → places_rise q (entry_of p o row ++ es) ≡ true
    go none ih jh = rw (le-leb q p h, ih)
    go (some was) ih jh = changed was (same_bytes was row) ih jh

own_places_rise : (old new : List (List ℕ)) → places_rise zero (journal_of old new).entries ≡ true
unfolding journal_of
own_places_rise old new = places_rise_lem zero zero old new (omega arith)

-- and are below the count after
places_below_lem : (n p : ℕ) (old rows : List (List ℕ)) → p + length rows ≤ n → places_below n (entries_from p old rows) ≡ true
unfolding places_below entries_from
places_below_lem n p old [] h = refl
places_below_lem n p old (row ∷ rows) h = go (row_with (row_key row) old) (places_below_lem n (suc p) old rows (omega arith))
  where
    l : p < n
    l = omega arith

    es : List Entry
    es = entries_from (suc p) old rows

    changed : (was : List ℕ) (t : Bool) → places_below n es ≡ true → places_below n (cond t [] (entry p (some was) ∷ []) ++ es) ≡ true
    changed was true ih = ih
    changed was false ih = rw (lt-ltb p n l, ih)

    go : (o : Option (List ℕ)) → places_below n es ≡ true → places_below n (entry_of p o row ++ es) ≡ true
    go none ih = rw (lt-ltb p n l, ih)
    go (some was) ih = changed was (same_bytes was row) ih

-- each row at the end is new or has one at entry
marks_new : (p : ℕ) (old rows : List (List ℕ)) → length (old_of old rows) + new_marks (entries_from p old rows) ≡ length rows
unfolding new_marks entries_from
marks_new p old [] = refl
marks_new p old (row ∷ rows) = go (row_with (row_key row) old) (marks_new (suc p) old rows)
  where
    es : List Entry
    es = entries_from (suc p) old rows

    changed : (was : List ℕ) (t : Bool) → length (old_of old rows) + new_marks es ≡ length rows
        → suc (length (old_of old rows)) + new_marks (cond t [] (entry p (some was) ∷ []) ++ es) ≡ suc (length rows)
    changed was true ih = omega arith
    changed was false ih = omega arith

    go : (o : Option (List ℕ)) → length (old_of old rows) + new_marks es ≡ length rows
        → length (one_or_none o ++ old_of old rows) + new_marks (entry_of p o row ++ es) ≡ suc (length rows)
    go none ih = omega arith
    go (some was) ih = changed was (same_bytes was row) ih

module _ (old new : List (List ℕ)) (f : Follows old new) where
  pub journal-fits : fits (journal_of old new) (length new) ≡ true
  unfolding fits journal_of
  journal-fits =
      let o = old_all new old f.old_rise f.new_rise f.stays in
      let e : length old + new_marks (entries_from zero old new) ≡ length new = rw o at (marks_new zero old new) in
      rw (
        eq-eqb (length new) (length new) refl,
        places_below_lem (length new) zero old new (omega arith),
        eq-eqb (length old + new_marks (entries_from zero old new)) (length new) e,
      )

  pub journal_taken : are_sound_rows old ≡ true → can_take_back (some (journal_of old new)) new ≡ true
  unfolding can_take_back
  journal_taken s =
      let j = journal_of old new in
      and_both (fits j (length new)) (places_rise zero j.entries && are_sound_rows (restored j new)) journal-fits
      (and_both (places_rise zero j.entries) (are_sound_rows (restored j new)) rise (rw (taken_back_lem old new f) s))
    where
      rise : places_rise zero (journal_of old new).entries ≡ true
      rise = own_places_rise old new
