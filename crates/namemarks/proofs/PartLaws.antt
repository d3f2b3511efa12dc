-- The numbers of a run, cut out at its positions, marked and put back; where no detail gives a name, there is none to mark. Assumes nothing.
use Prim.Native.Nat.{ℕ, suc, ◌+◌, ◌-◌, ◌%◌, ◌≤◌, ◌<◌, suc-le-suc}
use mathlib.Core.Path.{◌≡◌, refl, sym, ap, ◌∙◌}
use mathlib.Core.Bool.{Bool, true, false}
use mathlib.Core.List.{List, [], ◌∷◌, ◌++◌, map}
use mathlib.Core.Logic.{◌⊎◌, inl, inr}
use native.Mathlib.Nat.{zero-lt-suc}
use native.Mathlib.Omega.{arith}
use lib.Dec.{ltb}
use lib.ListN.{length, get_or, take, drop, length-drop, length-map, get_or-append}
use lib.Seq.{length-take-le, get_or-take, get_or-drop, get_or-append-add}
use borrow.Author.Tests.{ltb-true, ltb-false}
use borrow.Rule.Slice.PartMut.{put_mid, post_of, same_len_mid, take_put, drop_put}
use Rattle.judging.specs.Errors.{is_given}
use Rattle.judging.specs.Names.{gives_name}
use Rattle.judging.proofs.NamesLaws.{given_none, given_next}
use Rattle.keyorder.specs.Tagged.{rank_part, index_part, flag_given, flag_local, flag_wrong, flag_gives, record_of, record_in}
use Rattle.keyorder.proofs.RunLaws.{any_none}
use Rattle.namemarks.specs.Marks.{names_of, is_matched, marked, RunDetails, part, RunReady, RunMarked}
use Rattle.namemarks.proofs.MappedLaws.{get_d_map}
use Rattle.namemarks.proofs.MarkedLaws.{even, mark_index, mark_local, mark_wrong, mark_given, rank_rest}

-- none is given where no detail gives one
none_given : (state batch rec s : List ℕ) → ((q : ℕ) → q < length s → gives_name state (record_of batch (get_or s q 0)) ≡ false)
    → is_given (names_of state batch s) rec ≡ false
none_given state batch rec [] h = given_none state rec
none_given state batch rec (n ∷ s) h =
    given_next state rec (record_of batch n) (map (record_of batch) s)
    ∙ rw (h 0 (zero-lt-suc (length s))) (none_given state batch rec s (λ q l. h (suc q) (suc-le-suc l)))

module _ (state batch s : List ℕ) (p e : ℕ) (gives : Bool) (d : RunReady state batch s p e gives) where
  length_part : length (part p e s) ≡ e - p
  length_part = length-take-le (e - p) (drop p s) (rw length-drop (omega (arith, d.within)))

  part_at : (q : ℕ) → q < e - p → get_or (part p e s) q 0 ≡ get_or s (p + q) 0
  part_at q l = get_or-take (e - p) (drop p s) q 0 l ∙ get_or-drop p s q 0

  in_part : (q : ℕ) → q < length (part p e s) → q < e - p
  in_part q l = rw length_part at l

  pub part_details : RunDetails state batch (rank_part (get_or s p 0)) (part p e s)
  part_details =
      record {
        alone = λ q l. let k = in_part q l in
            let z = even (get_or s (p + q) 0) (d.unmarked (p + q) (omega arith) (omega arith)) in
            rw (part_at q k, ← d.same (p + q) (omega arith) (omega arith)) (rank_rest (get_or s (p + q) 0) z);
        recorded =
            record {
              there = λ q l. let k = in_part q l in rw (part_at q k) (d.there (p + q) (omega arith) (omega arith));
              gives = λ q l. let k = in_part q l in rw (part_at q k) (d.givers (p + q) (omega arith) (omega arith));
            };
        rising = λ q r m l. let k = in_part r l in
            let j : q < e - p = omega arith in
            rw (part_at q j, part_at r k) (d.rising (p + q) (p + r) (omega arith) (omega arith) (omega arith));
      }

  -- numbers that are marked inside and kept outside
  run_marked : (after : List ℕ) → length after ≡ length s → ((q : ℕ) → (q < p) ⊎ (e ≤ q) → get_or after q 0 ≡ get_or s q 0)
      → ((q : ℕ) → p ≤ q → q < e → get_or after q 0 ≡ marked state batch (part p e s) (get_or s q 0)) → RunMarked state batch p e s after
  run_marked after w out ins =
      record {
        width = w;
        outside = out;
        index = λ q. side q (ltb q p) refl (ltb q e) refl;
        local = λ q a b. ap flag_local (ins q a b) ∙ mark_local (get_or s q 0) (unmarked q a b) (is_matched state batch (part p e s) (get_or s q 0));
        wrong = λ q a b. ap flag_wrong (ins q a b) ∙ mark_wrong (get_or s q 0) (unmarked q a b) (is_matched state batch (part p e s) (get_or s q 0));
        given = λ q a b. ap flag_given (ins q a b) ∙ mark_given (get_or s q 0) (unmarked q a b) (is_matched state batch (part p e s) (get_or s q 0));
      }
    where
      unmarked : (q : ℕ) → p ≤ q → q < e → get_or s q 0 % 2 ≡ 0
      unmarked q a b = even (get_or s q 0) (d.unmarked q a b)

      side : (q : ℕ) (t : Bool) → ltb q p ≡ t → (u : Bool) → ltb q e ≡ u → index_part (get_or after q 0) ≡ index_part (get_or s q 0)
      side q true x u y = ap index_part (out q (inl (ltb-true q p x)))
      side q false x false y = ap index_part (out q (inr (ltb-false q e y)))
      side q false x true y =
          let a = ltb-false q p x in
          let b = ltb-true q e y in
          ap index_part (ins q a b) ∙ mark_index (get_or s q 0) (unmarked q a b) (is_matched state batch (part p e s) (get_or s q 0))

  -- the part put back with its names marked
  pub part-marked : (ys : List ℕ) → ys ≡ map (marked state batch (part p e s)) (part p e s) → RunMarked state batch p e s (put_mid p (e - p) s ys)
  part-marked ys m =
      run_marked (put_mid p (e - p) s ys) (same_len_mid p (e - p) s ys (ap length m ∙ length-map (part p e s) (marked state batch (part p e s)))) out at
    where
      inner : p ≤ length s
      inner = omega (arith, d.later, d.within)

      wide : length ys ≡ e - p
      wide = ap length m ∙ length-map (part p e s) (marked state batch (part p e s)) ∙ length_part

      back : (q : ℕ) → e ≤ q → (z : List ℕ) → get_or z q 0 ≡ get_or (drop e z) (q - e) 0
      back q l z = let h : q ≡ e + (q - e) = omega arith in ap (λ (n : ℕ). get_or z n 0) h ∙ sym (get_or-drop e z (q - e) 0)

      out : (q : ℕ) → (q < p) ⊎ (e ≤ q) → get_or (put_mid p (e - p) s ys) q 0 ≡ get_or s q 0
      out q (inl l) =
          sym (get_or-take p (put_mid p (e - p) s ys) q 0 l) ∙ ap (λ (z : List ℕ). get_or z q 0) (take_put p (e - p) s ys inner) ∙ get_or-take p s q 0 l
      out q (inr l) =
          let o : p ≤ e = omega (arith, d.later) in
          back q l (put_mid p (e - p) s ys) ∙ ap (λ (z : List ℕ). get_or z (q - e) 0) (drop_put p e s ys o d.within wide) ∙ sym (back q l s)

      at : (q : ℕ) → p ≤ q → q < e → get_or (put_mid p (e - p) s ys) q 0 ≡ marked state batch (part p e s) (get_or s q 0)
      at q l k =
          let h : q ≡ length (take p s) + (q - p) = omega (arith, length-take-le p s inner) in
          let j : q - p < e - p = omega arith in
          let i : p + (q - p) ≡ q = omega arith in
          ap (λ (n : ℕ). get_or (put_mid p (e - p) s ys) n 0) h
          ∙ get_or-append-add (take p s) (ys ++ post_of p (e - p) s) (q - p) 0
          ∙ get_or-append ys (post_of p (e - p) s) 0 (q - p) (rw wide j)
          ∙ ap (λ (z : List ℕ). get_or z (q - p) 0) m
          ∙ get_d_map (marked state batch (part p e s)) (part p e s) (q - p) (rw length_part j)
          ∙ ap (marked state batch (part p e s)) (part_at (q - p) j ∙ ap (λ (n : ℕ). get_or s n 0) i)

  -- and the numbers left where no name is given
  pub none_in_part : gives ≡ false → RunMarked state batch p e s s
  none_in_part g =
      run_marked s refl (λ q o. refl)
      (λ q a b. rw (none_given state batch (record_in batch s q) (part p e s) givers) (omega arith))
    where
      givers : (q : ℕ) → q < length (part p e s) → gives_name state (record_of batch (get_or (part p e s) q 0)) ≡ false
      givers q l =
          let k = in_part q l in
          rw (part_at q k)
          (sym (d.givers (p + q) (omega arith) (omega arith)) ∙ any_none flag_gives s p (e - p) (sym d.gives_is ∙ g) q k)
