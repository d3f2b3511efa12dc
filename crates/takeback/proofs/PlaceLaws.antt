-- Laws of one place tested: each way out of the code. Assumes nothing.
use Prim.Native.Nat.{ℕ, ◌+◌, ◌-◌, ◌*◌, ◌≤◌, ◌<◌}
use mathlib.Core.Path.{◌≡◌, refl, sym, ap, ◌∙◌}
use mathlib.Core.Bool.{Bool, true, false, cond, ◌&&◌}
use mathlib.Core.List.{List, [], ◌∷◌}
use mathlib.Core.Option.{Option, none, some}
use native.Mathlib.Omega.{arith}
use lib.Dec.{lit≤}
use lib.ListN.{length, take, drop, length-take, length-drop, drop_of_length-le}
use lib.Seq.{take-take}
use Rattle.casemaster.specs.Master.{row_in}
use Rattle.text.specs.ByteNumbers.{AreBytes, bytes_number}
use Rattle.text.proofs.ByteNumberLaws.{bytes_take, bytes_drop}
use Rattle.text.proofs.BlocksLaws.{part_width}
use Rattle.layout.specs.Limits.{max_rows}
use Rattle.casemaster.specs.Row.{row_key, is_sound_row}
use Rattle.casemaster.specs.Refusals.{master_refusal}
use Rattle.casemaster.proofs.RefusalsLaws.{one_row}
use Rattle.casemaster.proofs.PassLaws.{twelve_front, twelve_back}
use Rattle.journal.specs.Journal.{entry, ReadEntry, no_entry, one_entry, read_entry, before_others, entries_in}
use Rattle.journal.specs.Reading.{reach, EntryOutOfReach, EntryFound, old_at, IsEntry}
use Rattle.takeback.specs.Testing.{is_after, passes_from, IsKeyNumbers, IsLast, Followed, OldFollowed, OldFollowedIf, PlaceTested}
use Rattle.journal.specs.declared.entries.Found.{Found}
use Rattle.std.specs.Prelude.{Option as CodeOption, None, Some}
use Rattle.takeback.specs.declared.testing.Tested.{Tested}
use Rattle.journal.proofs.FormLaws.{entries_none, entries_bad, entries_next}
use Rattle.takeback.proofs.TestLaws.{Later, later_of, pass_keep, pass_new, pass_old, pass_unsound, pass_low, pass_far, pass_none}

-- ---- a key by its numbers

pub key_numbers : (bytes : List ℕ) (o front back : ℕ) → o + 12 ≤ length bytes → AreBytes bytes → front ≡ bytes_number (take 8 (drop o bytes))
    → back ≡ bytes_number (take 4 (drop (o + 8) bytes)) → IsKeyNumbers (take 12 (drop o bytes)) front back
key_numbers bytes o front back h b f k =
    record {
      twelve = simp (length-take, length-drop) (omega arith);
      bytes = bytes_take 12 (drop o bytes) (bytes_drop o bytes b);
      front_is = f ∙ ap bytes_number (twelve_front o bytes);
      back_is = k ∙ ap bytes_number (twelve_back o bytes);
    }

module _ (bytes : List ℕ) (o at : ℕ) (s : Tested) (r : CodeOption Tested) (t : ℕ) (l : o + 200 ≤ length bytes)
    (e : t ≡ master_refusal max_rows (take (o + 200 - o) (drop o bytes)) 1 0) where
  told : t ≡ cond (is_sound_row (take 200 (drop o bytes))) 0 4
  told =
      e ∙ ap (λ (x : List ℕ). master_refusal max_rows x 1 0) (part_width 200 bytes o)
      ∙ one_row (take 200 (drop o bytes)) (simp (length-take, length-drop) (omega arith))

  pub old_failed : (t ≡ 0 → ⊥) → r ≡ None → OldFollowed bytes o at s r
  old_failed n f = go (is_sound_row (take 200 (drop o bytes))) told
    where
      go : (b : Bool) → t ≡ cond b 0 4 → OldFollowedIf b bytes o at s r
      go true z = absurd (n z)
      go false z = f

  pub old_passed : t ≡ 0 → Followed bytes o at s r → OldFollowed bytes o at s r
  old_passed n f = go (is_sound_row (take 200 (drop o bytes))) told
    where
      go : (b : Bool) → t ≡ cond b 0 4 → OldFollowedIf b bytes o at s r
      go true z = f
      go false z = absurd (omega (arith, n, z))

-- the key of a row cut out
key_at_lem : (bytes : List ℕ) (o : ℕ) → row_key (take 200 (drop o bytes)) ≡ take 12 (drop o bytes)
key_at_lem bytes o = take-take 12 200 (drop o bytes) (lit≤ tt)

-- ---- one place

module _ (m : List ℕ) (p : ℕ) (journal : List ℕ) (s : Tested) where
  -- a test failed
  fails : ((n before : ℕ) (last : Option (List ℕ)) (rows : List (List ℕ)) → n ≤ reach
      → passes_from n before p s.marks last (entries_in (drop s.at journal)) (row_in m p ∷ rows) ≡ false)
      → PlaceTested m p journal s None
  fails f = λ n before last rows h l il sr. f n before last rows h

  -- a key that follows decides
  by_key : (at : ℕ) (bytes : List ℕ) (o : ℕ) (r : CodeOption Tested) → Followed bytes o at s r → at ≤ length journal
      → ((n before : ℕ) (last : Option (List ℕ)) (rows : List (List ℕ)) → p < n → is_sound_row (row_in m p) ≡ true
      → (b : Bool) → b ≡ is_after last (take 12 (drop o bytes))
      → passes_from n before p s.marks last (entries_in (drop s.at journal)) (row_in m p ∷ rows)
      ≡ (b && passes_from n before (p + 1) s.marks (some (take 12 (drop o bytes))) (entries_in (drop at journal)) rows))
      → PlaceTested m p journal s r
  by_key at bytes o None f l g = λ n before last rows h k il sr. g n before last rows k sr false (sym (f last il))
  by_key at bytes o (Some r) f l g =
      record {
        inside = omega (arith, f.at_is);
        few = omega (arith, f.marks_is);
        tested = λ n before last rows h k il sr.
            record {
              now_last = some (take 12 (drop o bytes));
              last_is = f.last_is;
              same = g n before last rows k sr true (sym (f.behind last il)) ∙ rw (f.at_is, f.marks_is);
            };
      }

  -- the row is kept: the entries to come are of later places
  keeps : (r : CodeOption Tested) → Followed m (p * 200) s.at s r → s.at ≤ length journal → Later p (entries_in (drop s.at journal)) → PlaceTested m p journal s r
  keeps r f l h =
      by_key s.at m (p * 200) r f l
      (λ n before last rows k sr b e.
      let q : row_key (row_in m p) ≡ take 12 (drop (p * 200) m) = key_at_lem m (p * 200) in
      rw q at (pass_keep n before p s.marks last (entries_in (drop s.at journal)) (row_in m p) rows b h sr (rw q e)))

  -- no entry is left
  pub kept_behind : (r : CodeOption Tested) → Followed m (p * 200) s.at s r → s.at ≤ length journal → length journal ≤ s.at → PlaceTested m p journal s r
  kept_behind r f l h =
      keeps r f l (rw (drop_of_length-le journal {i = s.at} h, entries_none [] refl) tt)

  -- no entry stands there
  pub no_entry_tested : IsEntry s.at journal None → s.at < length journal → PlaceTested m p journal s None
  no_entry_tested i l = fails (λ k before last rows h. go k before last rows h (read_entry (drop s.at journal)) refl i)
    where
      go : (k before : ℕ) (last : Option (List ℕ)) (rows : List (List ℕ)) → k ≤ reach → (x : ReadEntry) → read_entry (drop s.at journal) ≡ x
          → EntryOutOfReach x → passes_from k before p s.marks last (entries_in (drop s.at journal)) (row_in m p ∷ rows) ≡ false
      go k before last rows h no_entry y o =
          pass_none k before p s.marks last (entries_in (drop s.at journal)) (row_in m p ∷ rows)
          (entries_bad (drop s.at journal) (rw length-drop (omega arith)) y)
      go k before last rows h (one_entry z bs) y o =
          rw (entries_next (drop s.at journal) z bs y) (pass_far k before p s.marks last z (entries_in bs) (row_in m p ∷ rows) (omega arith))

  module _ (e : Found) (f : EntryFound s.at journal e.place e.old e.next) where
    abbrev old : Option (List ℕ)
    old = old_at e.old journal

    entries_are : entries_in (drop s.at journal) ≡ before_others (entry e.place old) (entries_in (drop e.next journal))
    entries_are = entries_next (drop s.at journal) (entry e.place old) (drop e.next journal) f.is

    pub low_tested : e.place < p → PlaceTested m p journal s None
    low_tested h =
        fails (λ k before last rows l.
        rw entries_are (pass_low k before p s.marks last (entry e.place old) (entries_in (drop e.next journal)) (row_in m p ∷ rows) h))

    pub kept_tested : (r : CodeOption Tested) → p < e.place → Followed m (p * 200) s.at s r → s.at ≤ length journal → PlaceTested m p journal s r
    kept_tested r h g l = keeps r g l (rw entries_are (later_of p (entry e.place old) (entries_in (drop e.next journal)) h))

    module _ (q : e.place ≡ p) where
      pub old_tested : (o : ℕ) → e.old ≡ Some o → (r : CodeOption Tested) → OldFollowed journal o e.next s r → PlaceTested m p journal s r
      old_tested o w r g = go (is_sound_row (take 200 (drop o journal))) refl r g
        where
          are : entries_in (drop s.at journal) ≡ before_others (entry p (some (take 200 (drop o journal)))) (entries_in (drop e.next journal))
          are = entries_are ∙ rw (q, w)

          go : (t : Bool) → is_sound_row (take 200 (drop o journal)) ≡ t → (r : CodeOption Tested) → OldFollowedIf t journal o e.next s r → PlaceTested m p journal s r
          go true t r g =
              by_key e.next journal o r g f.inside
              (λ k before last rows l sr b x.
              let z : row_key (take 200 (drop o journal)) ≡ take 12 (drop o journal) = key_at_lem journal o in
              rw are (rw z at (pass_old k before p s.marks last (entries_in (drop e.next journal)) (take 200 (drop o journal)) (row_in m p) rows b l t (rw z x))))
          go false t r g =
              rw g
              (fails (λ k before last rows l.
              rw are (pass_unsound k before p s.marks last (entries_in (drop e.next journal)) (take 200 (drop o journal)) (row_in m p) rows t)))

      pub new_tested : e.old ≡ None → (r : Tested) → r.at ≡ e.next → r.marks ≡ s.marks + 1
          → ((last : Option (List ℕ)) → IsLast s last → IsLast r last) → PlaceTested m p journal s (Some r)
      new_tested w r a b g =
          record {
            inside = omega (arith, f.inside);
            few = omega arith;
            tested = λ k before last rows h l il sr.
                record { now_last = last; last_is = g last il; same = rw (are, a, b) (pass_new k before p s.marks last (entries_in (drop e.next journal)) (row_in m p) rows l) };
          }
        where
          are : entries_in (drop s.at journal) ≡ before_others (entry p none) (entries_in (drop e.next journal))
          are = entries_are ∙ rw (q, w)
