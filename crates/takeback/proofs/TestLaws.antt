-- Laws of refusal 26 tested place by place. Assumes nothing.
use Prim.Native.Nat.{ℕ, suc, ◌+◌, ◌≤◌, ◌<◌}
use mathlib.Core.Path.{◌≡◌, refl, sym}
use mathlib.Core.Bool.{Bool, true, false, ◌&&◌, and-false}
use mathlib.Core.List.{List, [], ◌∷◌}
use mathlib.Core.Option.{Option, none, some}
use native.Mathlib.Numerals.{add-one}
use native.Mathlib.Omega.{arith}
use lib.Dec.{ltb, leb, eqb}
use lib.ListN.{length}
use borrow.Author.Tests.{ne_eqb, eq-eqb, lt-ltb, le-ltb, le-leb, lt-leb}
use Rattle.text.specs.Fields.{every}
use Rattle.text.specs.ByteOrder.{order_of, is_less, below_first, rising}
use Rattle.casemaster.specs.Row.{row_key, is_sound_row}
use Rattle.casemaster.specs.Master.{keys_of, are_sound_rows}
use Rattle.journal.specs.Journal.{Entry, entry, Journal, before_others}
use Rattle.takeback.specs.Restored.{places_below, places_rise, new_marks, restored_from, restored, fits, can_take_back}
use Rattle.takeback.specs.Testing.{with_last, is_after, sound_behind, passes_from}

-- a sound row in front: it must stand behind the last one, and is the last one then
behind_step : (last : Option (List ℕ)) (row : List ℕ) (rows : List (List ℕ)) (b : Bool) → is_sound_row row ≡ true → b ≡ is_after last (row_key row)
    → sound_behind last (row ∷ rows) ≡ (b && sound_behind (some (row_key row)) rows)
unfolding sound_behind keys_of rising below_first
behind_step none row rows b s e = rw (s, e)
behind_step (some k) row rows b s e = go b e
  where
    ks : List (List ℕ)
    ks = keys_of rows

    go : (b : Bool) → b ≡ is_less (order_of k (row_key row))
        → ((is_sound_row row && every is_sound_row rows) && rising (k ∷ row_key row ∷ ks)) ≡ (b && (every is_sound_row rows && rising (row_key row ∷ ks)))
    go true e = rw (s, ← e)
    go false e = rw (s, ← e) (and-false (every is_sound_row rows))

behind_unsound : (last : Option (List ℕ)) (row : List ℕ) (rows : List (List ℕ)) → is_sound_row row ≡ false → sound_behind last (row ∷ rows) ≡ false
unfolding sound_behind
behind_unsound last row rows s = rw s

-- ---- the tests left, at a place

-- the entries to come are of later places
abbrev pub Later : ℕ → Option (List Entry) → Type 0
Later p none = Unit {0}
Later p (some []) = Unit {0}
Later p (some (e ∷ es)) = p < e.place

pub later_of : (p : ℕ) (e : Entry) (o : Option (List Entry)) → p < e.place → Later p (before_others e o)
later_of p e none h = tt
later_of p e (some es) h = h

swap : (a b x s : Bool) → (a && (x && (b && s))) ≡ (b && (a && (x && s)))
swap a true x s = refl
swap true false true s = refl
swap true false false s = refl
swap false false x s = refl

gone : (a x : Bool) → (a && (x && false)) ≡ false
gone true true = refl
gone true false = refl
gone false x = refl

nothing_rises : rising (keys_of []) ≡ true
unfolding rising keys_of
nothing_rises = refl

one_rises : (k : List ℕ) → rising (k ∷ keys_of []) ≡ true
unfolding rising keys_of below_first
one_rises k = refl

module _ (n before p marks : ℕ) (last : Option (List ℕ)) where
  -- a row that is kept
  pub pass_keep : (o : Option (List Entry)) (row : List ℕ) (rows : List (List ℕ)) (b : Bool) → Later p o → is_sound_row row ≡ true
      → b ≡ is_after last (row_key row)
      → passes_from n before p marks last o (row ∷ rows) ≡ (b && passes_from n before (p + 1) marks (some (row_key row)) o rows)
  unfolding passes_from restored_from places_rise
  pass_keep none row rows b h s e = sym (and-false b)
  pass_keep (some []) row rows b h s e =
      let f = behind_step last row rows b s e in
      rw f (swap (places_below n [] && eqb (before + (marks + new_marks [])) n) b true (sound_behind (some (row_key row)) rows))
  pass_keep (some (x ∷ es)) row rows b h s e =
      let z : eqb x.place p ≡ false = ne_eqb x.place p (λ e. omega arith) in
      let f = behind_step last row (restored_from (suc p) (x ∷ es) rows) b s e in
      rw (z, add-one p, le-leb p x.place (omega arith), le-leb (suc p) x.place (omega arith), f)
      (swap (places_below n (x ∷ es) && eqb (before + (marks + new_marks (x ∷ es))) n) b (places_rise (suc x.place) es)
      (sound_behind (some (row_key row)) (restored_from (suc p) (x ∷ es) rows)))

  -- a new row, which goes
  pub pass_new : (o : Option (List Entry)) (row : List ℕ) (rows : List (List ℕ)) → p < n
      → passes_from n before p marks last (before_others (entry p none) o) (row ∷ rows) ≡ passes_from n before (p + 1) (marks + 1) last o rows
  unfolding passes_from restored_from places_rise places_below new_marks
  pass_new none row rows h = refl
  pass_new (some es) row rows h =
      let a : marks + (1 + new_marks es) ≡ marks + 1 + new_marks es = omega arith in
      rw (lt-ltb p n h, eq-eqb p p refl, le-leb p p (omega arith), add-one p, a)

  -- an old row in its place
  pub pass_old : (o : Option (List Entry)) (old row : List ℕ) (rows : List (List ℕ)) (b : Bool) → p < n → is_sound_row old ≡ true
      → b ≡ is_after last (row_key old)
      → passes_from n before p marks last (before_others (entry p (some old)) o) (row ∷ rows) ≡ (b && passes_from n before (p + 1) marks (some (row_key old)) o rows)
  unfolding passes_from restored_from places_rise places_below new_marks
  pass_old none old row rows b h s e = sym (and-false b)
  pass_old (some es) old row rows b h s e =
      let f = behind_step last old (restored_from (suc p) es rows) b s e in
      let a : marks + (0 + new_marks es) ≡ marks + new_marks es = omega arith in
      rw (lt-ltb p n h, eq-eqb p p refl, le-leb p p (omega arith), add-one p, a, f)
      (swap (places_below n es && eqb (before + (marks + new_marks es)) n) b (places_rise (suc p) es) (sound_behind (some (row_key old)) (restored_from (suc p) es rows)))

  pub pass_unsound : (o : Option (List Entry)) (old row : List ℕ) (rows : List (List ℕ)) → is_sound_row old ≡ false
      → passes_from n before p marks last (before_others (entry p (some old)) o) (row ∷ rows) ≡ false
  unfolding passes_from restored_from places_rise places_below new_marks
  pass_unsound none old row rows s = refl
  pass_unsound (some es) old row rows s =
      let f = behind_unsound last old (restored_from (suc p) es rows) s in
      rw (eq-eqb p p refl, f)
      (gone ((ltb p n && places_below n es) && eqb (before + (marks + (0 + new_marks es))) n) (leb p p && places_rise (suc p) es))

  -- a place before this one
  pub pass_low : (e : Entry) (o : Option (List Entry)) (rows : List (List ℕ)) → e.place < p → passes_from n before p marks last (before_others e o) rows ≡ false
  unfolding passes_from places_rise
  pass_low e none rows h = refl
  pass_low e (some es) rows h =
      rw (lt-leb p e.place h) (and-false (places_below n (e ∷ es) && eqb (before + (marks + new_marks (e ∷ es))) n))

  -- a place behind the last
  pub pass_far : (e : Entry) (o : Option (List Entry)) (rows : List (List ℕ)) → n ≤ e.place → passes_from n before p marks last (before_others e o) rows ≡ false
  unfolding passes_from places_below
  pass_far e none rows h = refl
  pass_far e (some es) rows h = rw (le-ltb e.place n h)

  pub pass_none : (o : Option (List Entry)) (rows : List (List ℕ)) → o ≡ none → passes_from n before p marks last o rows ≡ false
  unfolding passes_from
  pass_none o rows e = rw e

  -- behind the last place
  pub pass_end : passes_from n before p marks last (some []) [] ≡ eqb (before + marks) n
  unfolding passes_from places_below new_marks places_rise restored_from sound_behind
  pass_end =
      let a : before + (marks + 0) ≡ before + marks = omega arith in
      rw a (go last (eqb (before + marks) n))
    where
      go : (o : Option (List ℕ)) (b : Bool) → (b && rising (with_last o (keys_of []))) ≡ b
      go none true = nothing_rises
      go none false = refl
      go (some k) true = one_rises k
      go (some k) false = refl

-- ---- from the first place on

start_sound : (rows : List (List ℕ)) → are_sound_rows rows ≡ sound_behind none rows
unfolding are_sound_rows sound_behind
start_sound rows = refl

pub pass_start : (j : Journal) (rows : List (List ℕ)) (n : ℕ) → length rows ≡ n → j.after ≡ n
    → can_take_back (some j) rows ≡ passes_from n j.before 0 0 none (some j.entries) rows
unfolding can_take_back fits passes_from
pass_start j rows n l e =
    let a : 0 + new_marks j.entries ≡ new_marks j.entries = omega arith in
    rw (l, e, eq-eqb n n refl, start_sound (restored j rows), a)

pub start_other : (j : Journal) (rows : List (List ℕ)) → (j.after ≡ length rows → ⊥) → can_take_back (some j) rows ≡ false
unfolding can_take_back fits
start_other j rows h = rw (ne_eqb j.after (length rows) h)
