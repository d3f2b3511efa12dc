-- The walk over the keys: what stands and what is left to do make the whole. From the start, over one key, to the end. Assumes nothing.
use Prim.Native.Nat.{ℕ, ◌+◌, ◌-◌, ◌*◌, ◌≤◌, ◌<◌}
use mathlib.Core.Path.{◌≡◌, refl, sym, ap, ◌∙◌, subst}
use mathlib.Core.Logic.{◌⊎◌, inl, inr}
use mathlib.Core.Bool.{Bool, true, false, cond, false≢true}
use mathlib.Core.List.{List, [], ◌∷◌, ◌++◌, append_assoc}
use mathlib.Core.Option.{Option, none, some}
use native.Mathlib.Omega.{arith}
use borrow.Author.Tests.{ltb-true, ltb-false}
use lib.Dec.{ltb}
use lib.ListN.{length, take, drop, get_or, length-append, length-drop, drop_of_length-le}
use Rattle.text.specs.Options.{one_or_none}
use Rattle.text.specs.Blocks.{blocks}
use Rattle.casemaster.specs.Row.{row_key}
use Rattle.casemaster.specs.Rows.{row_with, with_stored}
use Rattle.casemaster.specs.Master.{rows_of, keys_of}
use Rattle.text.proofs.BlocksLaws.{length-blocks, blocks_split, kept_further}
use Rattle.text.proofs.FieldsLaws.{and_left}
use Rattle.onecase.specs.Verdict.{judgement, no_judgement}
use Rattle.keyorder.specs.Order.{detail_at}
use Rattle.keyorder.specs.Runs.{IsRun, SortedFrom}
use Rattle.keywork.specs.Packed.{Packed}
use Rattle.keywork.specs.Worked.{row_after, RunWorked}
use Rattle.judging.specs.Setting.{Setting, setting_of}
use Rattle.turns.specs.Turns.{final_rows}
use Rattle.keywalk.specs.Walk.{distinct, key_row, worked_keys}
use Rattle.text.proofs.WidthLaws.{blocks_wide}
use Rattle.turns.proofs.IndexLaws.{verdict_under}
use Rattle.turns.proofs.RunLaws.{run_stays}
use Rattle.keywalk.specs.Walking.{is_row_of, row_of_key, rows_from, OrderReady, Fixed, Stand, key_now, has_row, row_now, setting_now, verdict_at, KeyWorked, KeyWalked, WalkReady, Walked}
use Rattle.keywalk.proofs.GroupLaws.{details_from, IsStart, Group, after_run}
use Rattle.keywalk.proofs.KeysLaws as Keys
use Rattle.keywalk.proofs.KeysLaws.{SameFrom, same_from_self}
use Rattle.keywalk.proofs.PassLaws.{AllBelow, FirstNotBelow, is_key_of, first_of, behind_key, below_append, below_more, parted_find, parted-stored}
use Rattle.keywalk.proofs.StandLaws.{from_split, below_pass, none_back, first_is, behind_is}
use Rattle.keywalk.proofs.WorkLaws.{new_final}
use Rattle.keywalk.proofs.WalkLaws.{worked_low, worked_final, worked_fit, worked_other, key_row_key, length_own}
use Rattle.turns.specs.Under.{details_under, run_row}
use Rattle.turns.specs.Settings.{setting_under}
use Rattle.casemaster.specs.Search.{KeysRise}
use Rattle.casemaster.proofs.RowsLaws.{Fit, rows_rise}
use Rattle.casemaster.proofs.HalvingLaws.{keys_rise, rows_behind}
use Rattle.text.specs.ByteOrder.{order_of, is_less, rising}

module _ (f : Fixed) (s₀ : Stand) (w : WalkReady f s₀) where
  abbrev o : OrderReady f.settings.state f.settings.year f.settings.list f.batch f.count f.own s₀.numbers
  o = w.ordered

  abbrev details : List (List ℕ)
  details = Keys.details o

  abbrev order : List ℕ
  order = Keys.order o

  abbrev at : ℕ → ℕ
  at = Keys.at o

  abbrev key : ℕ → List ℕ
  key = Keys.key o

  abbrev keys : List (List ℕ)
  keys = Keys.keys o

  abbrev rows₀ : List (List ℕ)
  rows₀ = rows_from s₀.from f.end s₀.master

  -- the rows at a place of the walk: those passed, and those to come
  abbrev rows_at : Stand → List (List ℕ)
  rows_at s = rows_of s.to s.master ++ rows_from s.from f.end s.master

  -- ---- what is known at the start

  fit₀ : Fit rows₀
  fit₀ =
      record {
        wide =
            blocks_wide 200 (f.end - s₀.from) (drop (s₀.from * 200) s₀.master)
            (rw (length-drop (s₀.from * 200) s₀.master) (omega (arith, w.rows_in, w.within)));
        sound = w.sound;
      }

  final_is : worked_keys f.settings details (distinct keys) rows₀ ≡ final_rows f.settings rows₀ details
  final_is =
      worked_final f.settings o.in_order f.own (Keys.own_order o) (Keys.low o) (Keys.high o) rows₀ w.listed (Keys.records o) fit₀.wide fit₀.sound

  final_length : length (final_rows f.settings rows₀ details) ≡ f.end
  final_length =
      let b : length rows₀ ≡ f.end - s₀.from = length-blocks 200 (f.end - s₀.from) (drop (s₀.from * 200) s₀.master) in
      sym (new_final f.settings o fit₀ w.listed) ∙ omega (arith, b, w.room, w.within)

  -- ---- the invariant

  pub record Walking (s : Stand) : Type 0 where
    pub position : s.position ≤ f.own
    pub start : s.position < f.own → IsStart details order s.position
    pub low : s.to ≤ s.from
    pub within : s.from ≤ f.end
    pub len : length s.master ≡ length s₀.master
    pub rows_kept : drop (f.end * 200) s.master ≡ drop (f.end * 200) s₀.master
    pub same : SameFrom s.position s₀.numbers s.numbers
    pub fit : Fit (rows_at s)
    pub whole : worked_keys f.settings details (distinct (drop s.position keys)) (rows_at s) ≡ final_rows f.settings rows₀ details
    pub untouched : (q : ℕ) → s.position ≤ q → q < f.own → row_with (key q) (rows_at s) ≡ row_with (key q) rows₀
    pub below : (q : ℕ) → s.position ≤ q → q < f.own → AllBelow (key q) (rows_of s.to s.master)
    pub noted : (q : ℕ) → q < s.position → Packed (get_or s.numbers q 0) (at q) (verdict_at f s₀ q)

  -- the keys of the rows to come rise
  pub walking_rises : (s : Stand) → Walking s → KeysRise s.master s.from f.end
  walking_rises s g =
      keys_rise s.master s.from (f.end - s.from) f.end (omega (arith, g.within))
      (rows_behind (rows_of s.to s.master) (rows_from s.from f.end s.master) (rows_rise (rows_at s) g.fit.sound))

  pub walking_start : s₀.position ≡ 0 → s₀.to ≡ 0 → Walking s₀
  unfolding blocks
  walking_start pe te =
      record {
        position = omega (arith, pe);
        start = λ l. inl pe;
        low = omega (arith, te);
        within = w.within;
        len = refl;
        rows_kept = refl;
        same = same_from_self s₀.position s₀.numbers;
        fit = rw te fit₀;
        whole = rw (pe, te) final_is;
        untouched = λ q a b. rw te;
        below = λ q a b. rw te tt;
        noted = λ q l. absurd (omega (arith, pe));
      }

  -- the numbers to come are as they were sorted
  pub walking_sorted : (s : Stand) → Walking s
      → SortedFrom f.settings.state f.settings.year f.settings.list f.batch s.numbers s.position f.own
  walking_sorted s g = Keys.sorted_from o g.same

  -- ---- one key

  module _ (s : Stand) (g : Walking s) (l : s.position < f.own) where
    module _ (e passed : ℕ) (row : Option (List ℕ)) (numbers' : List ℕ) (kw : KeyWorked f s e passed row numbers') where
      abbrev p : ℕ
      p = s.position

      abbrev m : List ℕ
      m = s.master

      -- the first row that isn't below the key
      abbrev place : ℕ
      place = s.from + passed

      abbrev k : List ℕ
      k = key p

      in_count : p < f.count
      in_count = omega (arith, Keys.own_in o)

      key_is : key_now f s ≡ k
      key_is = Keys.in_key o g.same p (omega arith) in_count

      ended : IsRun s₀.numbers p f.own e
      ended = Keys.run_same o g.same kw.ended

      group : Group details order f.own p e
      group = Keys.group o l ended (g.start l)

      later_above : (q : ℕ) → e ≤ q → q < f.own → is_less (order_of k (key q)) ≡ true
      later_above = Keys.later_above o l ended (g.start l)

      abbrev pass : List (List ℕ)
      pass = rows_of passed (drop (s.from * 200) m)

      abbrev front : List (List ℕ)
      front = rows_of s.to m ++ pass

      abbrev back : List (List ℕ)
      back = rows_from place f.end m

      abbrev here : List (List ℕ)
      here = rows_at s

      here_is : here ≡ front ++ back
      here_is = ap (λ (x : List (List ℕ)). rows_of s.to m ++ x) (from_split m s.from passed f.end kw.below.within) ∙ sym (append_assoc (rows_of s.to m) pass back)

      front_below : AllBelow k front
      front_below =
          below_append k (rows_of s.to m) pass (g.below p (omega arith) l)
          (below_pass m k passed s.from (λ j b. rw (← key_is) (kw.below.below j b)))

      back_none : FirstNotBelow k back
      back_none = none_back m k place f.end kw.below.within (go kw.below.stops)
        where
          go : (place ≡ f.end) ⊎ (is_less (order_of (take 12 (drop (place * 200) m)) (key_now f s)) ≡ false)
              → (place ≡ f.end) ⊎ (is_less (order_of (take 12 (drop (place * 200) m)) k) ≡ false)
          go (inl a) = inl a
          go (inr a) = inr (rw key_is at a)

      rise : rising (keys_of (front ++ back)) ≡ true
      rise = rw (← here_is) (rows_rise here g.fit.sound)

      -- the row that the work on the key starts from
      start_is : row_now f s passed ≡ row_with k here
      start_is =
          ap (row_of_key m place f.end) key_is
          ∙ first_is m k place f.end kw.below.within
          ∙ sym (parted_find k front back front_below back_none rise)
          ∙ ap (row_with k) (sym here_is)

      abbrev setting : Setting
      setting = setting_under f.settings k

      -- the names that its details give are those given under it
      setting_is : setting_now f s e ≡ setting
      setting_is =
          ap (setting_of f.settings.state f.settings.year f.settings.list) (Keys.names_are o l ended (g.start l) g.same ∙ sym (w.given k))

      -- the key's details worked under its setting
      run_here : RunWorked setting f.batch p e (row_now f s passed) row s.numbers numbers'
      run_here = subst (λ (x : Setting). RunWorked x f.batch p e (row_now f s passed) row s.numbers numbers') setting_is kw.run

      -- the row after some of them
      after_is : (n : ℕ) → p + n ≤ e → row_after setting f.batch s.numbers p n (row_now f s passed) ≡ run_row setting (row_now f s passed) (details_from details order p n)
      after_is n b =
          after_run setting s.numbers details order f.batch p n (row_now f s passed)
          (λ j c. Keys.record_is o g.same (p + j) (omega arith) (omega (arith, kw.ended.within, Keys.own_in o)))

      row_is : row ≡ key_row f.settings details k here
      row_is =
          run_here.row_is ∙ after_is (e - p) (omega (arith, kw.ended.later))
          ∙ rw (start_is, Keys.all_under o l ended (g.start l))

      -- where the machine leaves no row there was none
      none_there : row ≡ none → is_key_of k back ≡ false
      none_there n = go (is_key_of k back) refl (first_of k back) refl (sym row_is ∙ n)
        where
          go : (t : Bool) → is_key_of k back ≡ t → (x : Option (List ℕ)) → first_of k back ≡ x → key_row f.settings details k here ≡ none → t ≡ false
          go false b x e n = refl
          go true b none e n = absurd (gone back b e)
            where
              gone : (bs : List (List ℕ)) → is_key_of k bs ≡ true → first_of k bs ≡ none → ⊥
              gone [] b e = false≢true b
              gone (x ∷ bs) b e = let z : some x ≡ none = (rw b at e) in absurd (some_none z)
                where
                  some_none : {r : List ℕ} → some r ≡ none → ⊥
                  some_none e = let z : ◌≡◌ {A = ℕ} 0 1 = cc in omega arith
          go true b (some x) e n =
              let a : row_with k here ≡ some x = ap (row_with k) here_is ∙ parted_find k front back front_below back_none rise ∙ e in
              let t = run_stays setting k (details_under k details) x in
              let c : some t.0 ≡ none = sym t.1 ∙ (rw a at n) in
              let z : ◌≡◌ {A = ℕ} 0 1 = cc in
              absurd (omega arith)

      abbrev rest : List (List ℕ)
      rest = behind_key k back

      -- the rows with the key's row put back
      stored_is : with_stored (key_row f.settings details k here) here ≡ front ++ (one_or_none row ++ rest)
      stored_is =
          ap (λ (o : Option (List ℕ)). with_stored o here) (sym row_is)
          ∙ ap (with_stored row) here_is
          ∙ parted-stored k front back front_below back_none rise row
          (λ row e. key_row_key f.settings details (Keys.records o) k here g.fit.wide row (sym row_is ∙ e)) none_there

      whole_next : worked_keys f.settings details (distinct (drop e keys)) (front ++ (one_or_none row ++ rest)) ≡ final_rows f.settings rows₀ details
      unfolding worked_keys
      whole_next =
          let a : worked_keys f.settings details (k ∷ distinct (drop e keys)) here ≡ final_rows f.settings rows₀ details = rw (Keys.keys_next o l ended (g.start l)) at g.whole in
          subst (λ (x : List (List ℕ)). worked_keys f.settings details (distinct (drop e keys)) x ≡ final_rows f.settings rows₀ details) stored_is a

      fit_next : Fit (front ++ (one_or_none row ++ rest))
      fit_next = rw stored_is at (worked_fit f.settings details (Keys.records o) w.listed k here g.fit)

      length-next : length (front ++ (one_or_none row ++ rest)) ≤ f.end
      length-next =
          let a = worked_low f.settings details (Keys.records o) w.listed (distinct (drop e keys)) (front ++ (one_or_none row ++ rest)) (Keys.rises o e) fit_next.wide fit_next.sound in
          let b : length (worked_keys f.settings details (distinct (drop e keys)) (front ++ (one_or_none row ++ rest))) ≡ f.end = ap length whole_next ∙ final_length in
          omega (arith, a, b)

      rest_from : rows_from (place + cond (has_row f s passed) 1 0) f.end m ≡ rest
      rest_from =
          ap (λ (x : List ℕ). rows_from (place + cond (is_row_of m place f.end x) 1 0) f.end m) key_is
          ∙ behind_is m k place f.end kw.below.within

      abbrev held : ℕ
      held = cond (has_row f s passed) 1 0

      held_in_lem : place + held ≤ f.end
      held_in_lem = go (has_row f s passed) refl
        where
          go : (t : Bool) → has_row f s passed ≡ t → place + cond t 1 0 ≤ f.end
          go false x = omega (arith, kw.below.within)
          go true x =
              let a = ltb-true place f.end (and_left (ltb place f.end) _ x) in
              omega (arith, a)

      -- the key's row has room
      pub walking_room : s.to + length (one_or_none row) ≤ s.from + held
      walking_room =
          let a : length (rows_of s.to m) ≡ s.to = length-blocks 200 s.to m in
          let b : length pass ≡ passed = length-blocks 200 passed (drop (s.from * 200) m) in
          let c : length rest ≡ f.end - (place + held) =
          ap length (sym rest_from) ∙ length-blocks 200 (f.end - (place + held)) (drop ((place + held) * 200) m) in
          let n : length (front ++ (one_or_none row ++ rest)) ≡ s.to + passed + (length (one_or_none row) + (f.end - (place + held))) =
          length-append front (one_or_none row ++ rest)
          ∙ rw (length-append (rows_of s.to m) pass, length-append (one_or_none row) rest, a, b, c) in
          omega (arith, n, length-next, held_in_lem)

      -- the row that the work on the key starts from is the one at the start of the walk, and the row that it leaves has the key
      pub under_key : (key : List ℕ) × (row_now f s passed ≡ row_with key (rows_from s₀.from f.end s₀.master)) × ((r : List ℕ) → row ≡ some r → row_key r ≡ key)
      under_key = (
        k,
        start_is ∙ g.untouched p (omega arith) l,
        λ r x. key_row_key f.settings details (Keys.records o) k here g.fit.wide r (sym row_is ∙ x),
      )

      row_below : (q : ℕ) → e ≤ q → q < f.own → AllBelow (key q) (one_or_none row)
      row_below q a b = go row refl
        where
          go : (y : Option (List ℕ)) → row ≡ y → AllBelow (key q) (one_or_none y)
          go none x = tt
          go (some y) x =
              let r : row_key y ≡ k = key_row_key f.settings details (Keys.records o) k here g.fit.wide y (sym row_is ∙ x) in
              (rw r (later_above q a b), tt)

      -- the verdicts on the key's details
      noted_now : (q : ℕ) → p ≤ q → q < e → Packed (get_or numbers' q 0) (at q) (verdict_at f s₀ q)
      noted_now q a b =
          let c : q < f.count = omega (arith, kw.ended.within, Keys.own_in o) in
          let z : p + (q - p) ≡ q = omega arith in
          let kq : key q ≡ k = group.same q a b in
          let v = verdict_under f.settings rows₀ details (at q) no_judgement (rw (Keys.count_details o) (Keys.at_inside o q c)) (Keys.records o) fit₀.wide in
          let u : details_under k (take (at q) details) ≡ details_from details order p (q - p) =
          rw z at (Keys.some_under o l ended (g.start l) (q - p) (omega arith)) in
          let n : row_now f s passed ≡ row_with k rows₀ = start_is ∙ g.untouched p (omega arith) l in
          let x : verdict_at f s₀ q ≡ judgement setting (run_row setting (row_now f s passed) (details_from details order p (q - p))) (detail_at details (at q)) =
          v ∙ rw (kq, u, n) in
          rw x (rw (after_is (q - p) (omega arith), Keys.record_is o g.same q a c, Keys.index_is o g.same q a c) at (run_here.packed q a b))

      noted_next : (q : ℕ) → q < e → Packed (get_or numbers' q 0) (at q) (verdict_at f s₀ q)
      noted_next q b = go (ltb q p) refl
        where
          go : (t : Bool) → ltb q p ≡ t → Packed (get_or numbers' q 0) (at q) (verdict_at f s₀ q)
          go true t = let a = ltb-true q p t in rw (run_here.kept q (inl a)) (g.noted q a)
          go false t = noted_now q (ltb-false q p t) b

      untouched_next : (q : ℕ) → e ≤ q → q < f.own → row_with (key q) (front ++ (one_or_none row ++ rest)) ≡ row_with (key q) rows₀
      untouched_next q a b =
          ap (row_with (key q)) (sym stored_is)
          ∙ worked_other f.settings details (Keys.records o) k here g.fit.wide (key q) (Keys.other_key o l ended (g.start l) q a b)
          ∙ g.untouched q (omega (arith, kw.ended.later)) b

    module _ (s' : Stand) (k : KeyWalked f s s') (len : length s'.master ≡ length s.master) where
      abbrev e : ℕ
      e = s'.position

      abbrev new : List (List ℕ)
      new = front e k.passed k.row s'.numbers k.worked

      abbrev rows' : List (List ℕ)
      rows' = new ++ (one_or_none k.row ++ rest e k.passed k.row s'.numbers k.worked)

      stands : rows_at s' ≡ rows'
      stands =
          let a : rows_from s'.from f.end s'.master ≡ rest e k.passed k.row s'.numbers k.worked =
          ap (rows_of (f.end - s'.from)) k.rest_kept ∙ ap (λ (x : ℕ). rows_from x f.end s.master) k.from_is
          ∙ rest_from e k.passed k.row s'.numbers k.worked in
          rw (k.rows_are, a) (append_assoc new (one_or_none k.row) (rest e k.passed k.row s'.numbers k.worked))

      pub walking_next : Walking s'
      walking_next =
          let r = walking_room e k.passed k.row s'.numbers k.worked in
          let i = held_in_lem e k.passed k.row s'.numbers k.worked in
          record {
            position = k.worked.ended.within;
            start = Keys.start_next o l (ended e k.passed k.row s'.numbers k.worked) (g.start l);
            low = omega (arith, r, k.from_is, k.to_is);
            within = omega (arith, k.from_is, i);
            len = len ∙ g.len;
            rows_kept = kept_further s'.master s.master (s'.from * 200) (f.end * 200) (omega (arith, k.from_is, i)) k.rest_kept ∙ g.rows_kept;
            same =
                record {
                  len = k.worked.run.width ∙ g.same.len;
                  same = λ q a. k.worked.run.kept q (inr a) ∙ g.same.same q (omega (arith, k.worked.ended.later));
                };
            fit = rw stands (fit_next e k.passed k.row s'.numbers k.worked);
            whole = rw stands (whole_next e k.passed k.row s'.numbers k.worked);
            untouched = λ q a b. rw stands (untouched_next e k.passed k.row s'.numbers k.worked q a b);
            below = λ q a b.
                rw k.rows_are
                (below_append (key q) new (one_or_none k.row)
                (below_more (key s.position) (key q) new (later_above e k.passed k.row s'.numbers k.worked q a b)
                (front_below e k.passed k.row s'.numbers k.worked))
                (row_below e k.passed k.row s'.numbers k.worked q a b));
            noted = noted_next e k.passed k.row s'.numbers k.worked;
          }

  -- ---- the end

  -- behind the last key the rows to come stand where they go
  pub walking_met : (s : Stand) → Walking s → f.own ≤ s.position → s.from ≡ s.to
  unfolding worked_keys distinct
  walking_met s g l =
      let n : length keys ≡ f.own = length_own details order f.own (Keys.own_order o) in
      let no_more : drop s.position keys ≡ [] = drop_of_length-le keys {i = s.position} (rw n l) in
      let all : rows_at s ≡ final_rows f.settings rows₀ details = rw no_more at g.whole in
      let a : length (rows_of s.to s.master) ≡ s.to = length-blocks 200 s.to s.master in
      let b : length (rows_from s.from f.end s.master) ≡ f.end - s.from = length-blocks 200 (f.end - s.from) (drop (s.from * 200) s.master) in
      let c : length (rows_at s) ≡ f.end = ap length all ∙ final_length in
      omega (arith, length-append (rows_of s.to s.master) (rows_from s.from f.end s.master), a, b, c, g.within, g.low)

  pub walking_done : (s : Stand) → Walking s → f.own ≤ s.position → Walked f s₀ s.master s.numbers
  unfolding worked_keys distinct
  walking_done s g l =
      let e : s.position ≡ f.own = omega (arith, g.position) in
      let n : length keys ≡ f.own = length_own details order f.own (Keys.own_order o) in
      let no_more : drop s.position keys ≡ [] = drop_of_length-le keys {i = s.position} (rw n l) in
      let all : rows_at s ≡ final_rows f.settings rows₀ details = rw no_more at g.whole in
      let a : length (rows_of s.to s.master) ≡ s.to = length-blocks 200 s.to s.master in
      let b : length (rows_from s.from f.end s.master) ≡ f.end - s.from = length-blocks 200 (f.end - s.from) (drop (s.from * 200) s.master) in
      let c : length (rows_at s) ≡ f.end = ap length all ∙ final_length in
      let x : s.from ≡ s.to = omega (arith, length-append (rows_of s.to s.master) (rows_from s.from f.end s.master), a, b, c, g.within, g.low) in
      let y : s.to + (f.end - s.to) ≡ f.end = omega (arith, g.within, g.low) in
      record {
        rows_are =
            ap (λ (z : ℕ). rows_of z s.master) (sym y) ∙ blocks_split 200 s.to (f.end - s.to) s.master
            ∙ ap (λ (z : ℕ). rows_of s.to s.master ++ rows_from z f.end s.master) (sym x) ∙ all;
        rows_kept = g.rows_kept;
        verdicts = λ q b. g.noted q (omega (arith, e));
        behind = λ q b. g.same.same q (omega (arith, e));
        width = g.same.len;
      }
