-- The count of the keys that get a new row: what is counted and what is left to count make the whole. Assumes nothing.
use Prim.Native.Nat.{ℕ, ◌+◌, ◌-◌, ◌*◌, ◌≤◌, ◌<◌}
use mathlib.Core.Path.{◌≡◌, refl, sym, ap, ◌∙◌}
use mathlib.Core.Logic.{◌⊎◌, inl, inr}
use mathlib.Core.Bool.{Bool, true, false, not, cond, ◌&&◌}
use mathlib.Core.List.{List, [], ◌∷◌, ◌++◌, append_assoc}
use mathlib.Core.Option.{Option, none, some}
use native.Mathlib.Omega.{arith}
use lib.ListN.{take, drop, drop_of_length-le}
use Rattle.text.specs.Options.{is_some, is_none}
use Rattle.text.specs.Blocks.{blocks}
use Rattle.casemaster.specs.Rows.{row_with}
use Rattle.casemaster.specs.Master.{rows_of, keys_of}
use Rattle.casemaster.specs.Search.{AreBelow}
use Rattle.onecase.specs.Machine.{next}
use Rattle.keyorder.proofs.TaggedLaws.{tagged_makes}
use Rattle.keywalk.specs.Walk.{distinct, is_new_key, new_keys}
use Rattle.keywalk.specs.Walking.{is_row_of, rows_from, OrderReady, Fixed, run_makes, rank_key, KeyCounted}
use Rattle.keywalk.specs.declared.counting.Count.{Count}
use Rattle.keywalk.proofs.GroupLaws.{IsStart, makes_run}
use Rattle.keywalk.proofs.PassLaws.{AllBelow, FirstNotBelow, is_key_of, first_of, below_append, below_more, parted_find}
use Rattle.keywalk.proofs.StandLaws.{from_split, below_pass, none_back, is_row}
use Rattle.keywalk.proofs.WalkLaws.{length_own}
use Rattle.keywalk.proofs.KeysLaws as Keys
use Rattle.text.proofs.BlocksLaws.{blocks_split}
use Rattle.turns.specs.Under.{details_under, run_row}
use Rattle.turns.specs.Settings.{setting_under}
use Rattle.text.specs.ByteOrder.{order_of, is_less, rising}

-- a key counted passes no row behind the last
pub within-next : (state : List ℕ) (own end : ℕ) (m numbers : List ℕ) (s s' : Count) → KeyCounted state own end m numbers s s' → s.from ≤ end → s'.from ≤ end
within-next state own end m numbers s s' kc l = go (run_makes numbers s.position s'.position) refl
  where
    go : (t : Bool) → run_makes numbers s.position s'.position ≡ t → s'.from ≤ end
    go true t = omega (arith, (kc.below t).within, kc.from_is)
    go false t = omega (arith, kc.idle t, kc.from_is)

module _ (f : Fixed) (m numbers : List ℕ) (o : OrderReady f.settings.state f.settings.year f.settings.list f.batch f.count f.own numbers)
    (rise : rising (keys_of (rows_of f.end m)) ≡ true) where
  abbrev details : List (List ℕ)
  details = Keys.details o

  abbrev key : ℕ → List ℕ
  key = Keys.key o

  abbrev rows : List (List ℕ)
  rows = rows_of f.end m

  abbrev new : List (List ℕ) → ℕ
  new ks = new_keys f.settings details ks rows

  pub record Counting (s : Count) : Type 0 where
    pub position : s.position ≤ f.own
    pub start : s.position < f.own → IsStart details (Keys.order o) s.position
    pub within : s.from ≤ f.end
    pub below : (q : ℕ) → s.position ≤ q → q < f.own → AllBelow (key q) (rows_of s.from m)
    pub counted : s.new + new (distinct (drop s.position (Keys.keys o))) ≡ new (distinct (Keys.keys o))

  pub counting_start : Counting (record { position = 0; from = 0; new = 0 })
  unfolding blocks
  counting_start =
      record {
        position = omega arith;
        start = λ l. inl refl;
        within = omega arith;
        below = λ q a b. tt;
        counted = omega arith;
      }

  module _ (s : Count) (g : Counting s) (l : s.position < f.own) (s' : Count) (kc : KeyCounted f.settings.state f.own f.end m numbers s s') where
    abbrev p : ℕ
    p = s.position

    abbrev e : ℕ
    e = s'.position

    abbrev at : ℕ
    at = s.from + kc.passed

    abbrev k : List ℕ
    k = key p

    in_count : p < f.count
    in_count = omega (arith, Keys.own_in o)

    key_is : rank_key f.settings.state numbers p ≡ k
    key_is = Keys.rank_key_lem o p l

    abbrev makes : Bool
    makes = run_makes numbers p e

    -- one of the details makes a row: the machine's run from none ends with one
    made : makes ≡ not (is_none (run_row (setting_under f.settings k) none (details_under k details)))
    made =
        makes_run (setting_under f.settings k) numbers details (Keys.order o) p (e - p)
        (λ j b.
        let c : p + j < f.count = omega (arith, kc.ended.within, kc.ended.later, Keys.own_in o) in
        tagged_makes _ _ _ _ _ _ (o.tags (p + j) c) (f.settings.names k)
        ∙ ap (λ (r : List ℕ). is_some (next (setting_under f.settings k) none r)) (Keys.detail_is o (p + j) c))
        ∙ rw (Keys.all_under o l kc.ended (g.start l))

    -- no detail makes a row: the key isn't new
    idle_is : makes ≡ false → is_new_key f.settings details rows k ≡ false
    idle_is t = go (row_with k rows)
      where
        go : (r : Option (List ℕ)) → (is_none r && not (is_none (run_row (setting_under f.settings k) r (details_under k details)))) ≡ false
        go none = sym made ∙ t
        go (some row) = refl

    -- ---- one does

    module _ (t : makes ≡ true) where
      abbrev pass : List (List ℕ)
      pass = rows_of kc.passed (drop (s.from * 200) m)

      abbrev front : List (List ℕ)
      front = rows_of s.from m ++ pass

      abbrev back : List (List ℕ)
      back = rows_from at f.end m

      below : AreBelow m s.from f.end (rank_key f.settings.state numbers p) kc.passed
      below = kc.below t

      rows_are : rows ≡ front ++ back
      rows_are =
          let a : s.from + (f.end - s.from) ≡ f.end = omega (arith, g.within) in
          ap (λ (x : ℕ). rows_of x m) (sym a) ∙ blocks_split 200 s.from (f.end - s.from) m
          ∙ ap (λ (x : List (List ℕ)). rows_of s.from m ++ x) (from_split m s.from kc.passed f.end below.within)
          ∙ sym (append_assoc (rows_of s.from m) pass back)

      front_below : AllBelow k front
      front_below =
          below_append k (rows_of s.from m) pass (g.below p (omega arith) l)
          (below_pass m k kc.passed s.from (λ j b. rw (← key_is) (below.below j b)))

      back_none : FirstNotBelow k back
      back_none = none_back m k at f.end below.within (go below.stops)
        where
          go : (at ≡ f.end) ⊎ (is_less (order_of (take 12 (drop (at * 200) m)) (rank_key f.settings.state numbers p)) ≡ false)
              → (at ≡ f.end) ⊎ (is_less (order_of (take 12 (drop (at * 200) m)) k) ≡ false)
          go (inl a) = inl a
          go (inr a) = inr (rw key_is at a)

      found : row_with k rows ≡ first_of k back
      found = ap (row_with k) rows_are ∙ parted_find k front back front_below back_none (rw (← rows_are) rise)

      -- the key is new exactly where it has no row
      new_is : is_new_key f.settings details rows k ≡ not (is_row_of m at f.end (rank_key f.settings.state numbers p))
      new_is = go (is_key_of k back) refl
        where
          held : is_row_of m at f.end (rank_key f.settings.state numbers p) ≡ is_key_of k back
          held = ap (is_row_of m at f.end) key_is ∙ is_row m k at f.end below.within

          missing : (bs : List (List ℕ)) → is_key_of k bs ≡ false → first_of k bs ≡ none
          missing [] f = refl
          missing (row ∷ bs) f = rw f

          present : (bs : List (List ℕ)) → is_key_of k bs ≡ true → is_none (first_of k bs) ≡ false
          present [] f = sym f
          present (row ∷ bs) f = rw f

          go : (b : Bool) → is_key_of k back ≡ b → is_new_key f.settings details rows k ≡ not (is_row_of m at f.end (rank_key f.settings.state numbers p))
          go true b = rw (held, b, found, present back b)
          go false b = rw (held, b, found, missing back b) (sym made ∙ t)

      passed_below : (q : ℕ) → e ≤ q → q < f.own → AllBelow (key q) (rows_of s'.from m)
      passed_below q a b =
          rw (kc.from_is, blocks_split 200 s.from kc.passed m)
          (below_more k (key q) front (Keys.later_above o l kc.ended (g.start l) q a b) front_below)

    new_is_all : is_new_key f.settings details rows k ≡ (makes && not (is_row_of m at f.end (rank_key f.settings.state numbers p)))
    new_is_all = go makes refl
      where
        go : (t : Bool) → makes ≡ t → is_new_key f.settings details rows k ≡ (t && not (is_row_of m at f.end (rank_key f.settings.state numbers p)))
        go true t = new_is t
        go false t = idle_is t

    below_all : (q : ℕ) → e ≤ q → q < f.own → AllBelow (key q) (rows_of s'.from m)
    below_all q a b = go makes refl
      where
        go : (t : Bool) → makes ≡ t → AllBelow (key q) (rows_of s'.from m)
        go true t = passed_below t q a b
        go false t =
            let z : s'.from ≡ s.from = omega (arith, kc.from_is, kc.idle t) in
            rw z (g.below q (omega (arith, kc.ended.later)) b)

    pub counting_next : Counting s'
    unfolding new_keys
    counting_next =
        let kn : distinct (drop p (Keys.keys o)) ≡ k ∷ distinct (drop e (Keys.keys o)) = Keys.keys_next o l kc.ended (g.start l) in
        let c : s.new + (cond (is_new_key f.settings details rows k) 1 0 + new (distinct (drop e (Keys.keys o)))) ≡ new (distinct (Keys.keys o)) = rw kn at g.counted in
        let one : s'.new ≡ s.new + cond (is_new_key f.settings details rows k) 1 0 = rw new_is_all kc.new_is in
        record {
          position = kc.ended.within;
          start = Keys.start_next o l kc.ended (g.start l);
          within = within-next f.settings.state f.own f.end m numbers s s' kc g.within;
          below = below_all;
          counted = omega (arith, c, one);
        }

  pub counting_done : (s : Count) → Counting s → f.own ≤ s.position → s.new ≡ new (distinct (Keys.keys o))
  unfolding new_keys distinct
  counting_done s g l =
      let none_there : drop s.position (Keys.keys o) ≡ [] = drop_of_length-le (Keys.keys o) {i = s.position} (rw (length_own details (Keys.order o) f.own (Keys.own_order o)) l) in
      let c : s.new + 0 ≡ new (distinct (Keys.keys o)) = rw none_there at g.counted in
      omega (arith, c)
