-- Laws of every place tested, and of the counts. Assumes nothing.
use Prim.Native.Nat.{ℕ, ◌+◌, ◌-◌, ◌≤◌, ◌<◌}
use mathlib.Core.Path.{◌≡◌, refl, sym, ap, ◌∙◌}
use mathlib.Core.Bool.{Bool, true, false, ◌&&◌, and-false}
use mathlib.Core.List.{List, [], ◌∷◌}
use mathlib.Core.Option.{Option, none, some}
use native.Mathlib.Omega.{arith}
use lib.Dec.{ltb, eqb}
use lib.ListN.{length, drop, length-drop, drop_of_length-le}
use borrow.Author.Tests.{ltb-true, ltb-false, ne_eqb, eq-eqb, eqb-true, eqb-false}
use Rattle.text.specs.Fields.{every}
use Rattle.text.proofs.FieldsLaws.{and_left, every_drop}
use Rattle.text.proofs.BlocksLaws.{blocks-next, length-blocks}
use Rattle.casemaster.specs.Row.{is_sound_row}
use Rattle.casemaster.specs.Master.{rows_of, row_in, are_sound_rows}
use Rattle.casemaster.proofs.RowsLaws.{each_sound}
use Rattle.journal.specs.Numbers.{Read, unread, read, read_number}
use Rattle.journal.specs.Journal.{Entry, Journal, journal, ReadEntry, no_entry, one_entry, read_entry, entries_in, before_others, with_counts, behind_after, behind_before, journal_in}
use Rattle.takeback.specs.Restored.{new_marks, places_below, fits, can_take_back}
use Rattle.journal.specs.Reading.{reach, OutOfReach, NumberRead, IsNumber}
use Rattle.takeback.specs.Testing.{passes_from, IsLast, PlacePassed, PlaceTested, CountsRead, IsCounts}
use Rattle.journal.specs.declared.numbers.Number.{Number}
use Rattle.std.specs.Prelude.{None}
use Rattle.takeback.specs.declared.testing.Tested.{Tested}
use Rattle.takeback.specs.declared.testing.Counts.{Counts}
use Rattle.journal.proofs.FormLaws.{entries_none, entries_bad, entries_next}
use Rattle.takeback.proofs.TestLaws.{pass_low, pass_far, pass_none, pass_end, pass_start, start_other}

-- ---- every place

pub record Testing (m : List ℕ) (n : ℕ) (journal : List ℕ) (before at₀ : ℕ) (s : Tested) (p : ℕ) : Type 0 where
  pub low : p ≤ n
  pub inside : s.at ≤ length journal
  pub few : s.marks ≤ p
  pub last : Option (List ℕ)
  pub last_is : IsLast s last
  pub same : passes_from n before p s.marks last (entries_in (drop s.at journal)) (drop p (rows_of n m))
      ≡ passes_from n before 0 0 none (entries_in (drop at₀ journal)) (rows_of n m)

pub testing_none : (m : List ℕ) (n : ℕ) (journal : List ℕ) (before at : ℕ) (s : Tested) → s.at ≡ at → s.marks ≡ 0 → s.last ≡ None → at ≤ length journal
    → Testing m n journal before at s 0
testing_none m n journal before at s a w h l =
    record {
      low = omega arith;
      inside = omega arith;
      few = omega arith;
      last = none;
      last_is = rw h refl;
      same = rw (a, w);
    }

module _ (m : List ℕ) (n : ℕ) (journal : List ℕ) (before at₀ : ℕ) (s : Tested) (p : ℕ) (t : Testing m n journal before at₀ s p) where
  module _ (h : are_sound_rows (rows_of n m) ≡ true) (few : n ≤ reach) (l : p < n) where
    row_is : drop p (rows_of n m) ≡ row_in m p ∷ drop (p + 1) (rows_of n m)
    row_is = blocks-next 200 n m p l

    row_sound : is_sound_row (row_in m p) ≡ true
    row_sound =
        let e : every is_sound_row (drop p (rows_of n m)) ≡ true = every_drop is_sound_row p (rows_of n m) (each_sound (rows_of n m) h) in
        and_left (is_sound_row (row_in m p)) (every is_sound_row (drop (p + 1) (rows_of n m))) (rw row_is at e)

    -- a test failed
    pub testing_stop : PlaceTested m p journal s None → false ≡ passes_from n before 0 0 none (entries_in (drop at₀ journal)) (rows_of n m)
    testing_stop f =
        let g : passes_from n before p s.marks t.last (entries_in (drop s.at journal)) (row_in m p ∷ drop (p + 1) (rows_of n m)) ≡ false =
        f n before t.last (drop (p + 1) (rows_of n m)) few l t.last_is row_sound in
        sym (sym t.same ∙ rw row_is g)

    pub testing_next : (r : Tested) → PlacePassed m p journal s r → Testing m n journal before at₀ r (p + 1)
    testing_next r f =
        let g = f.tested n before t.last (drop (p + 1) (rows_of n m)) few l t.last_is row_sound in
        record {
          low = omega arith;
          inside = f.inside;
          few = omega (arith, f.few, t.few);
          last = g.now_last;
          last_is = g.last_is;
          same = sym g.same ∙ sym (ap (passes_from n before p s.marks t.last (entries_in (drop s.at journal))) row_is) ∙ t.same;
        }

  module _ (k : n ≤ p) where
    no_rows : drop p (rows_of n m) ≡ []
    no_rows = drop_of_length-le (rows_of n m) {i = p} (rw (length-blocks 200 n m) k)

    -- an entry is left
    pub testing_left : s.at < length journal → false ≡ passes_from n before 0 0 none (entries_in (drop at₀ journal)) (rows_of n m)
    testing_left l = sym (sym t.same ∙ go (read_entry (drop s.at journal)) refl)
      where
        side : (e : Entry) (o : Option (List Entry)) (rows : List (List ℕ)) (b : Bool) → ltb e.place p ≡ b
            → passes_from n before p s.marks t.last (before_others e o) rows ≡ false
        side e o rows true b = pass_low n before p s.marks t.last e o rows (ltb-true e.place p b)
        side e o rows false b = pass_far n before p s.marks t.last e o rows (omega (arith, ltb-false e.place p b))

        go : (r : ReadEntry) → read_entry (drop s.at journal) ≡ r
            → passes_from n before p s.marks t.last (entries_in (drop s.at journal)) (drop p (rows_of n m)) ≡ false
        go no_entry y =
            pass_none n before p s.marks t.last (entries_in (drop s.at journal)) (drop p (rows_of n m))
            (entries_bad (drop s.at journal) (rw length-drop (omega arith)) y)
        go (one_entry e bs) y =
            rw (entries_next (drop s.at journal) e bs y) (side e (entries_in bs) (drop p (rows_of n m)) (ltb e.place p) refl)

    pub testing_end : length journal ≤ s.at → eqb (n - s.marks) before ≡ passes_from n before 0 0 none (entries_in (drop at₀ journal)) (rows_of n m)
    testing_end l =
        let j : entries_in (drop s.at journal) ≡ some [] = rw (drop_of_length-le journal {i = s.at} l) (entries_none [] refl) in
        let e : eqb (n - s.marks) before ≡ eqb (before + s.marks) n = turned (eqb (before + s.marks) n) refl in
        e ∙ sym (sym t.same ∙ rw (j, no_rows) (pass_end n before p s.marks t.last))
      where
        turned : (b : Bool) → eqb (before + s.marks) n ≡ b → eqb (n - s.marks) before ≡ b
        turned true b = eq-eqb (n - s.marks) before (omega (arith, eqb-true (before + s.marks) n b))
        turned false b = ne_eqb (n - s.marks) before (λ e. eqb-false (before + s.marks) n b (omega (arith, t.few, t.low)))

-- ---- the counts

-- a count before that is out of reach
far_fits : (j : Journal) (n : ℕ) → reach ≤ j.before → n < reach → fits j n ≡ false
unfolding fits
far_fits j n h l = go (eqb j.after n) refl
  where
    go : (b : Bool) → eqb j.after n ≡ b → (b && (places_below j.after j.entries && eqb (j.before + new_marks j.entries) j.after)) ≡ false
    go true e =
        let z : eqb (j.before + new_marks j.entries) j.after ≡ false =
        ne_eqb (j.before + new_marks j.entries) j.after (λ q. omega (arith, eqb-true j.after n e)) in
        rw z (and-false (places_below j.after j.entries))
    go false e = refl

before_far : (before : ℕ) (r : Read) (rows : List (List ℕ)) → reach ≤ before → length rows < reach → can_take_back (behind_after before r) rows ≡ false
unfolding can_take_back
before_far before unread rows h l = refl
before_far before (read after bytes) rows h l = go (entries_in bytes)
  where
    go : (o : Option (List Entry)) → can_take_back (with_counts before after o) rows ≡ false
    go none = refl
    go (some es) = rw (far_fits (journal before after es) (length rows) h l)

after_far : (before after : ℕ) (o : Option (List Entry)) (rows : List (List ℕ)) → (after ≡ length rows → ⊥) → can_take_back (with_counts before after o) rows ≡ false
unfolding can_take_back
after_far before after none rows h = refl
after_far before after (some es) rows h = start_other (journal before after es) rows h

module _ (bytes : List ℕ) where
  -- no count before
  pub no_first : IsNumber 0 bytes None → IsCounts bytes None
  unfolding journal_in can_take_back
  no_first i = λ rows l. go rows l (read_number bytes) i
    where
      go : (rows : List (List ℕ)) → length rows < reach → (r : Read) → OutOfReach r → can_take_back (behind_before r) rows ≡ false
      go rows l unread h = refl
      go rows l (read before behind) h = before_far before (read_number behind) rows h l

  module _ (first : Number) (i : NumberRead 0 bytes first.value first.next) where
    first_is : journal_in bytes ≡ behind_after first.value (read_number (drop first.next bytes))
    unfolding journal_in
    first_is = rw i.is

    -- no count after
    pub no_second : IsNumber first.next bytes None → IsCounts bytes None
    unfolding can_take_back
    no_second h = λ rows l. rw first_is (far (read_number (drop first.next bytes)) h rows l)
      where
        far : (q : Read) → OutOfReach q → (rows : List (List ℕ)) → length rows < reach → can_take_back (behind_after first.value q) rows ≡ false
        far unread h rows l = refl
        far (read after behind) h rows l = after_far first.value after (entries_in behind) rows (λ q. omega arith)

    pub second_counts : (second : Number) → NumberRead first.next bytes second.value second.next → CountsRead bytes first.value second.value second.next
    second_counts second h = record { is = first_is ∙ rw h.is; inside = h.inside }

-- ---- the whole

no_journal : (rows : List (List ℕ)) → can_take_back none rows ≡ false
unfolding can_take_back
no_journal rows = refl

module _ (m : List ℕ) (n : ℕ) (bytes : List ℕ) where
  rows_count : length (rows_of n m) ≡ n
  rows_count = length-blocks 200 n m

  pub taken_no_counts : IsCounts bytes None → n < reach → false ≡ can_take_back (journal_in bytes) (rows_of n m)
  taken_no_counts i l = sym (i (rows_of n m) (rw rows_count l))

  module _ (c : Counts) (i : CountsRead bytes c.before c.after c.at) where
    pub taken_other : (c.after ≡ n → ⊥) → false ≡ can_take_back (journal_in bytes) (rows_of n m)
    taken_other h = sym (rw i.is (after_far c.before c.after (entries_in (drop c.at bytes)) (rows_of n m) (rw rows_count h)))

    pub taken_passes : c.after ≡ n → passes_from n c.before 0 0 none (entries_in (drop c.at bytes)) (rows_of n m) ≡ can_take_back (journal_in bytes) (rows_of n m)
    taken_passes a = sym (rw i.is (go (entries_in (drop c.at bytes))))
      where
        go : (o : Option (List Entry)) → can_take_back (with_counts c.before c.after o) (rows_of n m) ≡ passes_from n c.before 0 0 none o (rows_of n m)
        go none = no_journal (rows_of n m) ∙ sym (pass_none n c.before 0 0 none none (rows_of n m) refl)
        go (some es) = pass_start (journal c.before c.after es) (rows_of n m) n rows_count a
