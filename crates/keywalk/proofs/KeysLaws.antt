-- The keys of a batch's details in key order: one detail's place, one key's details side by side, and later keys above. Assumes nothing.
use Prim.Native.Nat.{ℕ, zero, suc, ◌+◌, ◌-◌, ◌^◌, ◌≤◌, ◌<◌}
use mathlib.Core.Path.{◌≡◌, refl, sym, ap, ◌∙◌}
use mathlib.Core.Logic.{◌⊎◌, inl, inr}
use mathlib.Core.Bool.{Bool, true, false, false≢true}
use mathlib.Core.List.{List, [], ◌∷◌, map}
use native.Mathlib.Nat.{eq-or-lt_of_le}
use native.Mathlib.Omega.{arith}
use lib.ListN.{length, take, drop, get_or, length-drop}
use lib.Seq.{take-suc, get_or-drop}
use Rattle.casemaster.proofs.RowsLaws.{below_other}
use Rattle.text.specs.Fields.{same_bytes}
use Rattle.text.specs.Blocks.{blocks}
use Rattle.text.proofs.BlocksLaws.{map_snoc, length-blocks, blocks_get}
use Rattle.text.proofs.SameLaws.{eq_same, same_eq}
use Rattle.layout.specs.Record.{record_key}
use Rattle.keyorder.specs.Order.{key_of_rank, detail_at, rank_of, rank_at, no_rank, Before}
use Rattle.keyorder.specs.Tagged.{rank_part, index_part, index_parts, record_of, record_in, key_in}
use Rattle.keyorder.specs.Runs.{IsRun, SortedFrom}
use Rattle.keyorder.proofs.TaggedLaws.{tag_at}
use Rattle.keyorder.proofs.RankLaws.{below_own, key_of_rank_lem, rank_same, rank_less, rank_most}
use Rattle.judging.specs.Names.{names_given}
use Rattle.namemarks.specs.Marks.{names_of, part}
use Rattle.keywalk.specs.Walk.{keys_at, distinct}
use Rattle.text.proofs.WidthLaws.{All, blocks_wide}
use Rattle.turns.proofs.UnderLaws.{IsRecord}
use Rattle.turns.proofs.IndexLaws.{key_at}
use Rattle.keywalk.specs.Walking.{OrderReady, rank_key}
use Rattle.keywalk.proofs.GroupLaws.{details_from, IsStart, Group, group-part, group_whole}
use Rattle.keywalk.proofs.WalkLaws.{distinct-group, keys_rise, length_own, own_key}
use Rattle.turns.specs.Under.{details_under}
use Rattle.text.specs.ByteOrder.{order_of, is_less, rising}

-- numbers that are the same from position p on
pub record SameFrom (p : ℕ) (numbers₀ numbers : List ℕ) : Type 0 where
  pub len : length numbers ≡ length numbers₀
  pub same : (q : ℕ) → p ≤ q → get_or numbers q 0 ≡ get_or numbers₀ q 0

pub same_from_self : (p : ℕ) (numbers : List ℕ) → SameFrom p numbers numbers
same_from_self p numbers = record { len = refl; same = λ q l. refl }

module _ {state : List ℕ} {year : ℕ} {list batch : List ℕ} {d own : ℕ} {numbers₀ : List ℕ} (o : OrderReady state year list batch d own numbers₀) where
  abbrev pub details : List (List ℕ)
  details = blocks 245 d batch

  abbrev pub order : List ℕ
  order = index_parts d numbers₀

  abbrev pub at : ℕ → ℕ
  at q = get_or order q 0

  abbrev pub keys : List (List ℕ)
  keys = keys_at details (take own order)

  abbrev pub key : ℕ → List ℕ
  key q = key_at details (at q)

  pub records : All IsRecord details
  records = blocks_wide 245 d batch o.recorded

  pub count_details : length details ≡ d
  count_details = length-blocks 245 d batch

  pub count_order : length order ≡ d
  count_order = o.in_order.count ∙ count_details

  pub own_in : own ≤ d
  own_in = o.own_end.within

  pub own_order : own ≤ length order
  own_order = rw count_order own_in

  pub at_inside : (q : ℕ) → q < d → at q < d
  at_inside q l = omega (arith, o.in_order.inside q (rw count_order l), count_details)

  pub at_is : (q : ℕ) → q < d → at q ≡ index_part (get_or numbers₀ q 0)
  at_is q l = tag_at d numbers₀ q l

  -- the record at a position is the detail at its index
  pub detail_is : (q : ℕ) → q < d → record_in batch numbers₀ q ≡ detail_at details (at q)
  detail_is q l = rw (← at_is q l) (sym (blocks_get 245 d batch (at q) (at_inside q l)))

  -- and the rank in its number that of its key
  pub rank_at_lem : (q : ℕ) → q < d → rank_part (get_or numbers₀ q 0) ≡ rank_at state details (at q)
  rank_at_lem q l = (o.tags q l).rank_is ∙ ap (λ (r : List ℕ). rank_of state (record_key r)) (detail_is q l)

  pub low : (q : ℕ) → q < own → rank_at state details (at q) < no_rank
  low q l = rw (← rank_at_lem q (omega (arith, own_in))) (o.own_end.low q l)

  -- the key of its rank is its key
  pub rank_key_lem : (q : ℕ) → q < own → rank_key state numbers₀ q ≡ key q
  rank_key_lem q l =
      let i = rank_at_lem q (omega (arith, own_in)) in
      ap (key_of_rank state) i ∙ key_of_rank_lem state (key q) (below_own state (key q) (low q l))

  pub high : (q : ℕ) → own ≤ q → q < length order → rank_at state details (at q) ≡ no_rank
  high q a b =
      let l : q < d = rw count_order at b in
      omega (arith, o.own_end.high q a l, rank_at_lem q l, rank_most state (record_key (detail_at details (at q))))

  -- two details of one rank have one key
  pub same : (i j : ℕ) → rank_at state details i < 2 ^ 31 → rank_at state details i ≡ rank_at state details j → key_at details i ≡ key_at details j
  same i j l e =
      rank_same state (key_at details i) (key_at details j) (below_own state (key_at details i) l) (below_own state (key_at details j) (rw (← e) l)) e

  pub apart : (q r : ℕ) → q < r → r < d → at q ≡ at r → ⊥
  apart q r a b e = go (o.in_order.in_order q r a (rw count_order b))
    where
      go : Before state details (at q) (at r) → ⊥
      go (inl x) = let y : rank_at state details (at q) ≡ rank_at state details (at r) = ap (rank_at state details) e in omega (arith, x, y)
      go (inr x) = omega (arith, x.1, e)

  pub rises : (p : ℕ) → rising (distinct (drop p keys)) ≡ true
  rises p = keys_rise o.in_order own own_order low p

  -- numbers that are the same from a position on
  module _ {p : ℕ} {numbers : List ℕ} (sf : SameFrom p numbers₀ numbers) where
    pub index_is : (q : ℕ) → p ≤ q → q < d → index_part (get_or numbers q 0) ≡ at q
    index_is q a b = ap index_part (sf.same q a) ∙ sym (at_is q b)

    pub record_is : (q : ℕ) → p ≤ q → q < d → record_in batch numbers q ≡ detail_at details (at q)
    record_is q a b = ap (record_of batch) (sf.same q a) ∙ detail_is q b

    pub in_key : (q : ℕ) → p ≤ q → q < d → key_in batch numbers q ≡ key q
    in_key q a b = ap record_key (record_is q a b)

    pub run_same : {e : ℕ} → IsRun numbers p own e → IsRun numbers₀ p own e
    run_same {e} r =
        let z : p ≤ p = omega arith in
        record {
          later = r.later;
          within = r.within;
          same = λ q a b. rw (← sf.same q a, ← sf.same p z) (r.same q a b);
          other = go r.other;
        }
      where
        go : (e ≡ own) ⊎ (rank_part (get_or numbers e 0) ≡ rank_part (get_or numbers p 0) → ⊥)
            → (e ≡ own) ⊎ (rank_part (get_or numbers₀ e 0) ≡ rank_part (get_or numbers₀ p 0) → ⊥)
        go (inl x) = inl x
        go (inr x) =
            inr (λ h. x (ap rank_part (sf.same e (omega (arith, r.later))) ∙ h ∙ sym (ap rank_part (sf.same p (omega arith)))))

    -- what stands from there on is as it was sorted
    pub sorted_from : SortedFrom state year list batch numbers p own
    sorted_from =
        record {
          within = omega (arith, own_in, o.numbered, sf.len);
          there = λ q a b. omega (arith, index_is q a (omega (arith, own_in)), at_inside q (omega (arith, own_in)), o.recorded);
          tags = λ q a b. rw (sf.same q a) (o.tags q (omega (arith, own_in)));
          rising = λ q r a l b e.
              let m : q < d = omega (arith, own_in) in
              let n : r < d = omega (arith, own_in) in
              let c : p ≤ r = omega arith in
              rw (index_is q a m, index_is r c n)
              (less q r (o.in_order.in_order q r l (rw count_order n))
              (sym (rank_at_lem q m) ∙ ap rank_part (sym (sf.same q a)) ∙ e ∙ ap rank_part (sf.same r c) ∙ rank_at_lem r n));
        }
      where
        less : (q r : ℕ) → Before state details (at q) (at r) → rank_at state details (at q) ≡ rank_at state details (at r) → at q < at r
        less q r (inl x) e = absurd (omega arith)
        less q r (inr x) e = x.1

    -- the details at n positions from there on
    from_numbers : (n : ℕ) → p + n ≤ d → details_from details order p n ≡ map (record_of batch) (take n (drop p numbers))
    from_numbers zero h = refl
    from_numbers (suc n) h =
        let w : n < length (drop p numbers) = rw length-drop (omega (arith, o.numbered, sf.len)) in
        rw (from_numbers n (omega arith), ← record_is (p + n) (omega arith) (omega arith), take-suc (drop p numbers) n 0 w, get_or-drop p numbers n 0)
        (sym (map_snoc (record_of batch) (take n (drop p numbers)) (get_or numbers (p + n) 0)))

  -- ---- one key

  module _ {p e : ℕ} (l : p < own) (run : IsRun numbers₀ p own e) (start : IsStart details order p) where
    abbrev k : List ℕ
    k = key p

    pub group : Group details order own p e
    group =
        record {
          later = run.later;
          within = run.within;
          same = λ q a b.
              same (at q) (at p) (low q (omega (arith, run.within)))
              (sym (rank_at_lem q (omega (arith, run.within, own_in))) ∙ run.same q a b ∙ rank_at_lem p (omega (arith, own_in)));
          other = ends (eq-or-lt_of_le run.within) run.other;
          first = start;
        }
      where
        differ : e < own → (rank_part (get_or numbers₀ e 0) ≡ rank_part (get_or numbers₀ p 0) → ⊥) → (t : Bool) → same_bytes k (key e) ≡ t → t ≡ false
        differ a b false f = refl
        differ a b true f =
            absurd (b (rank_at_lem e (omega (arith, own_in)) ∙ ap (rank_of state) (sym (same_eq k (key e) f)) ∙ sym (rank_at_lem p (omega (arith, own_in)))))

        ends : (e ≡ own) ⊎ (e < own) → (e ≡ own) ⊎ (rank_part (get_or numbers₀ e 0) ≡ rank_part (get_or numbers₀ p 0) → ⊥)
            → (e ≡ own) ⊎ (same_bytes k (key e) ≡ false)
        ends (inl a) x = inl a
        ends (inr a) (inl b) = inl b
        ends (inr a) (inr b) = inr (differ a b (same_bytes k (key e)) refl)

    pub all_under : details_under k details ≡ details_from details order p (e - p)
    all_under = group_whole state details order o.in_order same own own_order low high p e group

    pub some_under : (j : ℕ) → j < e - p → details_under k (take (at (p + j)) details) ≡ details_from details order p j
    some_under j b = group-part state details order o.in_order same own own_order low high p e group j (omega arith)

    -- the names that the details at its positions give are those given under the key
    pub names_are : {numbers : List ℕ} → SameFrom p numbers₀ numbers → names_of state batch (part p e numbers) ≡ names_given state (details_under k details)
    names_are {numbers} sf =
        ap (names_given state) (sym (all_under ∙ from_numbers sf (e - p) (omega (arith, run.later, run.within, own_in))))

    -- the keys to come
    pub keys_next : distinct (drop p keys) ≡ k ∷ distinct (drop e keys)
    keys_next =
        let n : length keys ≡ own = length_own details order own own_order in
        let first : get_or keys p [] ≡ k = own_key details order own own_order p l in
        distinct-group keys p e run.later (rw n run.within)
        (λ q a b. own_key details order own own_order q (omega (arith, run.within)) ∙ group.same q a b ∙ sym first)
        (ends (eq-or-lt_of_le run.within) group.other first n)
        ∙ ap (λ (x : List ℕ). x ∷ distinct (drop e keys)) first
      where
        ends : (e ≡ own) ⊎ (e < own) → (e ≡ own) ⊎ (same_bytes k (key e) ≡ false) → get_or keys p [] ≡ k → length keys ≡ own
            → (e ≡ length keys) ⊎ (same_bytes (get_or keys p []) (get_or keys e []) ≡ false)
        ends (inl a) x f n = inl (a ∙ sym n)
        ends (inr a) (inl b) f n = inl (b ∙ sym n)
        ends (inr a) (inr b) f n = inr (rw (f, own_key details order own own_order e a) b)

    -- later keys are above
    pub later_above : (q : ℕ) → e ≤ q → q < own → is_less (order_of k (key q)) ≡ true
    unfolding is_less
    later_above q a b = rw (rank_less state k (key q) (below_own state k (low p l)) (below_own state (key q) (low q b)) ranks)
      where
        ordered : (x y : ℕ) → x < y → y < own → Before state details (at x) (at y)
        ordered x y s t = o.in_order.in_order x y s (rw count_order (omega (arith, own_in)))

        step : Before state details (at p) (at e) → (e ≡ own) ⊎ (same_bytes k (key e) ≡ false) → rank_at state details (at p) < rank_at state details (at e)
        step (inl x) y = x
        step (inr x) (inl y) = absurd (omega (arith, y))
        step (inr x) (inr y) = absurd (false≢true (sym y ∙ eq_same k (key e) (same (at p) (at e) (low p l) x.0)))

        on : (e ≡ q) ⊎ (e < q) → rank_at state details (at e) ≤ rank_at state details (at q)
        on (inl x) = rw x (omega arith)
        on (inr x) = more (ordered e q x b)
          where
            more : Before state details (at e) (at q) → rank_at state details (at e) ≤ rank_at state details (at q)
            more (inl y) = omega (arith, y)
            more (inr y) = omega (arith, y.0)

        ranks : rank_of state k < rank_of state (key q)
        ranks = omega (arith, step (ordered p e run.later (omega arith)) group.other, on (eq-or-lt_of_le a))

    pub other_key : (q : ℕ) → e ≤ q → q < own → same_bytes k (key q) ≡ false
    other_key q a b = below_other k (key q) (later_above q a b)

    pub start_next : e < own → IsStart details order e
    start_next b =
        let s : e ≡ suc (e - 1) = omega (arith, run.later) in
        let x : key (e - 1) ≡ k = group.same (e - 1) (omega (arith, run.later)) (omega (arith, run.later)) in
        inr (e - 1, s, rw x (other_key e (omega arith) b))
