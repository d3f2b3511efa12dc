-- Laws of rows restored place by place. Assumes nothing.
use Prim.Native.Nat.{ℕ, suc, ◌+◌, ◌-◌, ◌*◌, ◌≤◌, ◌<◌}
use mathlib.Core.Path.{◌≡◌, refl, sym, ap, ◌∙◌}
use mathlib.Core.Bool.{true, false}
use mathlib.Core.List.{List, [], ◌∷◌, ◌++◌, append_assoc, append-nil}
use mathlib.Core.Option.{Option, none, some}
use native.Mathlib.Numerals.{add-one}
use native.Mathlib.Omega.{arith}
use lib.Dec.{ltb, leb, eqb}
use lib.ListN.{length, take, drop, length-drop, drop_of_length-le}
use lib.Seq.{length-take-le}
use borrow.Author.Tests.{ne_eqb, eq-eqb, leb-true, ltb-true, le-leb}
use Rattle.text.specs.Blocks.{blocks, spliced}
use Rattle.text.specs.Options.{one_or_none}
use Rattle.text.proofs.FieldsLaws.{and_left, and_right}
use Rattle.text.proofs.BoolLaws.{and_both}
use Rattle.text.proofs.BlocksLaws.{blocks-next, blocks_snoc, length-blocks, kept_further, part_width}
use Rattle.casemaster.specs.Master.{rows_of, row_in}
use Rattle.casemaster.specs.Search.{RowPut}
use Rattle.casemaster.proofs.MovedLaws.{row_put}
use Rattle.journal.specs.Journal.{Entry, entry, ReadEntry, no_entry, one_entry, read_entry, before_others, entries_in}
use Rattle.takeback.specs.Restored.{places_rise, places_below, restored_from}
use Rattle.journal.specs.Reading.{reach, EntryOutOfReach, EntryFound, old_at, IsEntry}
use Rattle.takeback.specs.Restoring.{IsLater, CanRestore, PlaceRestored, AllRestored}
use Rattle.journal.specs.declared.entries.Found.{Found}
use Rattle.std.specs.Prelude.{Option as CodeOption, None, Some, IsSome}
use Rattle.takeback.specs.declared.restoring.Position.{Position}
use Rattle.journal.proofs.FormLaws.{entries_none, entries_bad, entries_next}

-- ---- entries

-- where later places come, the row stays
later_taken : (p : ℕ) (es : List Entry) (row : List ℕ) (rows : List (List ℕ)) → IsLater p es → restored_from p es (row ∷ rows) ≡ row ∷ restored_from (p + 1) es rows
unfolding restored_from
later_taken p [] row rows h = refl
later_taken p (e ∷ es) row rows h =
    let z : eqb e.place p ≡ false = ne_eqb e.place p (λ f. omega arith) in
    rw (z, add-one p)

later_rise : (p : ℕ) (es : List Entry) → IsLater p es → places_rise p es ≡ true → places_rise (p + 1) es ≡ true
unfolding places_rise
later_rise p [] h r = refl
later_rise p (e ∷ es) h r =
    and_both (leb (p + 1) e.place) (places_rise (suc e.place) es) (le-leb (p + 1) e.place (omega arith))
    (and_right (leb p e.place) (places_rise (suc e.place) es) r)

first_place : (p : ℕ) (e : Entry) (es : List Entry) → places_rise p (e ∷ es) ≡ true → (p ≤ e.place) × (places_rise (suc e.place) es ≡ true)
unfolding places_rise
first_place p e es r = (
  leb-true p e.place (and_left (leb p e.place) (places_rise (suc e.place) es) r),
  and_right (leb p e.place) (places_rise (suc e.place) es) r,
)

first_place_below : (n : ℕ) (e : Entry) (es : List Entry) → places_below n (e ∷ es) ≡ true → (e.place < n) × (places_below n es ≡ true)
unfolding places_below
first_place_below n e es r =
    (ltb-true e.place n (and_left (ltb e.place n) (places_below n es) r), and_right (ltb e.place n) (places_below n es) r)

here_taken : (p : ℕ) (old : Option (List ℕ)) (es : List Entry) (row : List ℕ) (rows : List (List ℕ))
    → restored_from p (entry p old ∷ es) (row ∷ rows) ≡ one_or_none old ++ restored_from (p + 1) es rows
unfolding restored_from
here_taken p old es row rows = rw (eq-eqb p p refl, add-one p)

place_above : (p q : ℕ) → p ≤ q → (q ≡ p → ⊥) → p < q
place_above p q h n = omega arith

-- an entry and those behind it are some entries
data Split (e : Entry) (others : Option (List Entry)) (es : List Entry) : Type 0 where
  split_at : (rest : List Entry) → others ≡ some rest → es ≡ e ∷ rest → Split e others es

entries_split : (e : Entry) (o : Option (List Entry)) (es : List Entry) → before_others e o ≡ some es → Split e o es
entries_split e none es h = let z : ◌≡◌ {A = ℕ} 0 1 = cc in absurd (omega arith)
entries_split e (some rest) es h = split_at rest refl (cc)

module _ (journal : List ℕ) (at p : ℕ) (c : CanRestore journal at p) (l : at < length journal) where
  other : (x : Entry) (bs : List ℕ) → reach ≤ x.place → Split x (entries_in bs) c.entries → ⊥
  other x bs h (split_at rest f g) = let b = first_place_below reach x rest (rw g at c.below) in omega (arith, b.0)

  out : (r : ReadEntry) → read_entry (drop at journal) ≡ r → EntryOutOfReach r → ⊥
  out no_entry y h =
      let n : entries_in (drop at journal) ≡ none = entries_bad (drop at journal) (rw length-drop (omega arith)) y in
      let a = c.are in
      let z : ◌≡◌ {A = ℕ} 0 1 = cc in
      omega arith
  out (one_entry x bs) y h =
      other x bs h (entries_split x (entries_in bs) c.entries (sym (entries_next (drop at journal) x bs y) ∙ c.are))

  -- the entry is found
  pub must_find : (o : CodeOption Found) → IsEntry at journal o → IsSome o
  must_find None i = absurd (out (read_entry (drop at journal)) refl i)
  must_find (Some e) i = refl

module _ (journal : List ℕ) (at p : ℕ) (c : CanRestore journal at p) (e : Found) (f : EntryFound at journal e.place e.old e.next) where
  first_is : Split (entry e.place (old_at e.old journal)) (entries_in (drop e.next journal)) c.entries
  first_is =
      entries_split (entry e.place (old_at e.old journal)) (entries_in (drop e.next journal)) c.entries
      (sym (entries_next (drop at journal) (entry e.place (old_at e.old journal)) (drop e.next journal) f.is) ∙ c.are)

  -- another place: it is later
  pub is_later : (e.place ≡ p → ⊥) → IsLater p c.entries
  is_later n = go first_is
    where
      go : Split (entry e.place (old_at e.old journal)) (entries_in (drop e.next journal)) c.entries → IsLater p c.entries
      go (split_at rest f g) =
          let r = first_place p (entry e.place (old_at e.old journal)) rest (rw g at c.rise) in
          let k : p < e.place = place_above p e.place r.0 n in
          rw g k

  -- this place: what it leaves, and the entries behind it
  pub here : (at' : ℕ) → at' ≡ e.next → e.place ≡ p
      → (q : CanRestore journal at' (p + 1))
      × ((row : List ℕ) (rows : List (List ℕ)) → restored_from p c.entries (row ∷ rows) ≡ one_or_none (old_at e.old journal) ++ restored_from (p + 1) q.entries rows)
  here at' a y = go first_is
    where
      go : Split (entry e.place (old_at e.old journal)) (entries_in (drop e.next journal)) c.entries
          → (q : CanRestore journal at' (p + 1))
          × ((row : List ℕ) (rows : List (List ℕ)) → restored_from p c.entries (row ∷ rows) ≡ one_or_none (old_at e.old journal) ++ restored_from (p + 1) q.entries rows)
      go (split_at rest f g) =
          let x = entry e.place (old_at e.old journal) in
          let r = first_place p x rest (rw g at c.rise) in
          let b = first_place_below reach x rest (rw g at c.below) in
          let w : suc e.place ≡ p + 1 = omega arith in (
            record { entries = rest; are = rw a f; rise = rw w at r.1; below = b.1 },
            λ row rows. rw (g, y) (here_taken p (old_at e.old journal) rest row rows),
          )

by_mark : (b c : CodeOption ℕ) → b ≡ c → (journal : List ℕ) (rows : List (List ℕ))
    → one_or_none (old_at b journal) ++ rows ≡ one_or_none (old_at c journal) ++ rows
by_mark b c e journal rows = rw e

nothing_taken : (p : ℕ) (es : List Entry) → restored_from p es [] ≡ []
unfolding restored_from
nothing_taken p [] = refl
nothing_taken p (e ∷ es) = refl

-- ---- one place

module _ (m : List ℕ) (p : ℕ) (journal : List ℕ) (s : Position) (m' : List ℕ) (r : Position) (es : List Entry) where
  -- a row put behind those left before
  pub put-restored : (row : List ℕ) → RowPut m s.to row m' → r.to ≡ s.to + 1 → s.to ≤ p → (q : CanRestore journal r.at (p + 1)) → r.at ≤ length journal
      → ((rows : List (List ℕ)) → restored_from p es (row_in m p ∷ rows) ≡ row ∷ restored_from (p + 1) q.entries rows) → PlaceRestored m p journal s m' r es
  put-restored row f e l q a t =
      record {
        left = row ∷ [];
        next = q;
        taken = t;
        rows_are = rw e f.rows_are;
        rest_kept = rw e f.rest_kept;
        same_length = f.same_length;
        inside = a;
        to_low = omega arith;
        to_high = omega arith;
      }

-- a row that stays where it is
pub stays_put : (m : List ℕ) (p to : ℕ) → p ≡ to → p * 200 + 200 ≤ length m → RowPut m to (row_in m p) m
stays_put m p to e h = rw (← e) (record { rows_are = blocks_snoc 200 p m h; rest_kept = refl; same_length = refl })

module _ (m : List ℕ) (p : ℕ) (journal : List ℕ) (s : Position) (m' : List ℕ) (r : Position) where
  -- kept
  pub kept_restored : RowPut m s.to (row_in m p) m' → r.to ≡ s.to + 1 → r.at ≡ s.at → s.to ≤ p → s.at ≤ length journal
      → (c : CanRestore journal s.at p) → IsLater p c.entries → PlaceRestored m p journal s m' r c.entries
  kept_restored f e a l i c h =
      let q : CanRestore journal s.at (p + 1) =
      record { entries = c.entries; are = c.are; rise = later_rise p c.entries h c.rise; below = c.below } in
      let u : CanRestore journal r.at (p + 1) =
      record { entries = c.entries; are = rw a c.are; rise = later_rise p c.entries h c.rise; below = c.below } in
      put-restored m p journal s m' r c.entries (row_in m p) f e l u (omega arith) (λ rows. later_taken p c.entries (row_in m p) rows h)

  -- no entry is left
  pub none_later : length journal ≤ s.at → (c : CanRestore journal s.at p) → IsLater p c.entries
  none_later h c =
      let a : entries_in (drop s.at journal) ≡ some [] = rw (drop_of_length-le journal {i = s.at} h) (entries_none [] refl) in
      let b = c.are in
      let e : [] ≡ c.entries = cc in
      rw (← e) tt

  module _ (e : Found) (f : EntryFound s.at journal e.place e.old e.next) (y : e.place ≡ p) (k : s.to ≤ p) (c : CanRestore journal s.at p) where
    -- a new row goes
    pub new_restored : e.old ≡ None → m' ≡ m → r.to ≡ s.to → r.at ≡ e.next → PlaceRestored m p journal s m' r c.entries
    new_restored w g t a =
        let x = here journal s.at p c e f r.at a y in
        record {
          left = [];
          next = x.0;
          taken = λ rows. x.1 (row_in m p) rows ∙ by_mark e.old None w journal (restored_from (p + 1) x.0.entries rows);
          rows_are = rw (g, t) (sym (append-nil (rows_of s.to m)));
          rest_kept = rw g;
          same_length = rw g;
          inside = omega (arith, f.inside);
          to_low = omega arith;
          to_high = omega arith;
        }

    -- an old row in its place
    pub old_restored : (o : ℕ) → e.old ≡ Some o → m' ≡ spliced m (s.to * 200) (take (o + 200 - o) (drop o journal)) → p * 200 + 200 ≤ length m
        → r.to ≡ s.to + 1 → r.at ≡ e.next → PlaceRestored m p journal s m' r c.entries
    old_restored o w g h t a =
        let x = here journal s.at p c e f r.at a y in
        let row : List ℕ = take 200 (drop o journal) in
        let wide : length row ≡ 200 = length-take-le 200 (drop o journal) (rw (length-drop o journal) (omega (arith, f.row_inside o w))) in
        let u : RowPut m s.to row m' = rw (g, part_width 200 journal o) (row_put m s.to row wide (omega arith)) in
        put-restored m p journal s m' r c.entries row u t k x.0 (omega (arith, f.inside)) (λ rows. x.1 (row_in m p) rows ∙ by_mark e.old (Some o) w journal (restored_from (p + 1) x.0.entries rows))

-- ---- every place

pub record Restoring (m₀ : List ℕ) (n : ℕ) (journal : List ℕ) (at₀ : ℕ) (m : List ℕ) (s : Position) (p : ℕ) : Type 0 where
  pub low : p ≤ n
  pub to_low : s.to ≤ p
  pub inside : s.at ≤ length journal
  pub same_length : length m ≡ length m₀
  pub left : CanRestore journal s.at p
  pub whole : (c : CanRestore journal at₀ 0)
      → rows_of s.to m ++ restored_from p left.entries (drop p (rows_of n m₀)) ≡ restored_from 0 c.entries (rows_of n m₀)
  pub rest : drop (s.to * 200) m ≡ drop (s.to * 200) m₀

same_entries : (journal : List ℕ) (at p q : ℕ) (c : CanRestore journal at p) (d : CanRestore journal at q) → c.entries ≡ d.entries
same_entries journal at p q c d =
    let a = c.are in
    let b = d.are in
    let e : some c.entries ≡ some d.entries = sym a ∙ b in
    cc

pub restoring_none : (m : List ℕ) (n : ℕ) (journal : List ℕ) (at : ℕ) (s : Position) → s.to ≡ 0 → s.at ≡ at → at ≤ length journal → CanRestore journal at 0
    → Restoring m n journal at m s 0
unfolding blocks
restoring_none m n journal at s t a i c =
    let q : CanRestore journal s.at 0 = record { entries = c.entries; are = rw a c.are; rise = c.rise; below = c.below } in
    record {
      low = omega arith;
      to_low = omega arith;
      inside = omega arith;
      same_length = refl;
      left = q;
      whole = λ d. rw (t, same_entries journal at 0 0 c d);
      rest = refl;
    }

module _ (m₀ : List ℕ) (n : ℕ) (journal : List ℕ) (at₀ : ℕ) (m : List ℕ) (s : Position) (p : ℕ) (g : Restoring m₀ n journal at₀ m s p) where
  pub restoring_next : p < n → (m' : List ℕ) (r : Position) → ((c : CanRestore journal s.at p) → PlaceRestored m p journal s m' r c.entries)
      → Restoring m₀ n journal at₀ m' r (p + 1)
  restoring_next l m' r f =
      let h = f g.left in
      let e : row_in m p ≡ row_in m₀ p = ap (take 200) (kept_further m m₀ (s.to * 200) (p * 200) (omega (arith, g.to_low)) g.rest) in
      let d : drop p (rows_of n m₀) ≡ row_in m p ∷ drop (p + 1) (rows_of n m₀) = blocks-next 200 n m₀ p l ∙ rw e in
      record {
        low = omega arith;
        to_low = h.to_low;
        inside = h.inside;
        same_length = h.same_length ∙ g.same_length;
        left = h.next;
        whole = λ c.
            rw h.rows_are
            (append_assoc (rows_of s.to m) h.left (restored_from (p + 1) h.next.entries (drop (p + 1) (rows_of n m₀)))
            ∙ ap (λ (z : List (List ℕ)). rows_of s.to m ++ z) (sym (h.taken (drop (p + 1) (rows_of n m₀))) ∙ rw d)
            ∙ g.whole c);
        rest = h.rest_kept ∙ kept_further m m₀ (s.to * 200) (r.to * 200) (omega (arith, h.to_high)) g.rest;
      }

  pub restoring_end : n ≤ p → (c : CanRestore journal at₀ 0) → AllRestored m₀ n m s.to c.entries
  restoring_end l c =
      let e : drop p (rows_of n m₀) ≡ [] = drop_of_length-le (rows_of n m₀) {i = p} (rw (length-blocks 200 n m₀) l) in
      record {
        rows_are =
            sym (append-nil (rows_of s.to m))
            ∙ ap (λ (z : List (List ℕ)). rows_of s.to m ++ z) (sym (nothing_taken p g.left.entries) ∙ rw e)
            ∙ g.whole c;
        rest_kept = g.rest;
        same_length = g.same_length;
        few = omega (arith, g.to_low, g.low);
      }
