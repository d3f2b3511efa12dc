-- Laws of a batch worked key by key: each key's row is the machine's, the rows stay sound, as many rows come as there are new keys, and in
-- the end they are the rows that the details leave in batch order. Assumes nothing.
use Prim.Native.Nat.{ℕ, zero, suc, ◌+◌, ◌-◌, ◌≤◌, ◌<◌}
use mathlib.Core.Path.{◌≡◌, refl, sym, ap, ◌∙◌}
use mathlib.Core.Logic.{◌⊎◌, inl, inr}
use mathlib.Core.Bool.{Bool, true, false, not, cond, ◌&&◌, false≢true}
use mathlib.Core.List.{List, [], ◌∷◌}
use mathlib.Core.Option.{Option, none, some}
use native.Mathlib.Nat.{eq-or-lt_of_le, not-suc-le-zero, le_of_suc-le-suc}
use native.Mathlib.Omega.{arith}
use borrow.Author.Tests.{ltb-true, ltb-false}
use lib.Dec.{ltb}
use lib.ListN.{length, take, drop, get_or, drop_of_length-le}
use lib.Seq.{length-take-le, drop-cons, get_or-take}
use Rattle.text.specs.Options.{is_none}
use Rattle.text.specs.Fields.{same_bytes}
use Rattle.layout.specs.Locals.{is_local_list}
use Rattle.layout.specs.Key.{is_own_key}
use Rattle.casemaster.proofs.KeyRowLaws.{KeyRow, found_keyed, found_sound, stored_wide, stored_fit, stored_here, stored_other}
use Rattle.casemaster.specs.Row.{row_key}
use Rattle.casemaster.specs.Master.{are_sound_rows}
use Rattle.casemaster.specs.Rows.{row_with, with_stored}
use Rattle.text.proofs.FieldsLaws.{and_left, and_right}
use Rattle.text.proofs.SameLaws.{eq_same, same_eq}
use Rattle.casemaster.proofs.SearchLaws.{length_replaced, length-added}
use Rattle.keyorder.specs.Order.{no_rank, rank_of, rank_at, Before, InKeyOrder}
use Rattle.keyorder.proofs.RankLaws.{own_below, below_own, rank_same, rank_less}
use Rattle.turns.specs.Turns.{final_rows}
use Rattle.keywalk.specs.Walk.{keys_at, is_first, distinct, key_row, worked_keys, is_new_key, new_keys}
use Rattle.text.proofs.WidthLaws.{All}
use Rattle.casemaster.proofs.RowsLaws.{same_rows, Each, IsWide, each_some, Fit, rows_rise}
use Rattle.turns.proofs.UnderLaws.{IsRecord, final_fit, found_final}
use Rattle.turns.proofs.IndexLaws.{key_at, under_none}
use Rattle.turns.proofs.RunLaws.{run_keyed, run_sound, run_none, run_stays, run_other}
use Rattle.turns.specs.Under.{details_under, run_row}
use Rattle.turns.specs.Settings.{Settings, setting_under}
use Rattle.text.specs.ByteOrder.{less, order_of, is_less, is_equal, below_first, rising}
use Rattle.text.proofs.ByteOrderLaws.{less_trans, less_sides, same_order}

-- ---- of each run of the same key, one

module _ (k : List ℕ) (ks : List (List ℕ)) where
  pub distinct_same : is_first k ks ≡ true → distinct (k ∷ ks) ≡ distinct ks
  unfolding distinct
  distinct_same t = rw t

  pub distinct_other : is_first k ks ≡ false → distinct (k ∷ ks) ≡ k ∷ distinct ks
  unfolding distinct
  distinct_other t = rw t

module _ (keys : List (List ℕ)) where
  -- the key at e, if there is one, is another
  ends : (k : List ℕ) (e : ℕ) → e ≤ length keys → (e ≡ length keys) ⊎ (same_bytes k (get_or keys e []) ≡ false) → is_first k (drop e keys) ≡ false
  ends k e m (inl z) = rw (drop_of_length-le keys {i = e} (omega arith))
  ends k e m (inr f) = go (eq-or-lt_of_le m)
    where
      go : (e ≡ length keys) ⊎ (e < length keys) → is_first k (drop e keys) ≡ false
      go (inl z) = rw (drop_of_length-le keys {i = e} (omega arith))
      go (inr l) = rw (drop-cons keys e [] l) f

  group : (n p e : ℕ) → suc p + n ≡ e → e ≤ length keys → ((q : ℕ) → p ≤ q → q < e → get_or keys q [] ≡ get_or keys p [])
      → (e ≡ length keys) ⊎ (same_bytes (get_or keys p []) (get_or keys e []) ≡ false)
      → distinct (drop p keys) ≡ get_or keys p [] ∷ distinct (drop e keys)
  group zero p e h m same end =
      let s : suc p ≡ e = omega arith in
      let f : is_first (get_or keys p []) (drop (suc p) keys) ≡ false =
      ap (λ (i : ℕ). is_first (get_or keys p []) (drop i keys)) s ∙ ends (get_or keys p []) e m end in
      ap distinct (drop-cons keys p [] (omega arith))
      ∙ distinct_other (get_or keys p []) (drop (suc p) keys) f
      ∙ ap (λ (i : ℕ). get_or keys p [] ∷ distinct (drop i keys)) s
  group (suc n) p e h m same end =
      let g : get_or keys (suc p) [] ≡ get_or keys p [] = same (suc p) (omega arith) (omega arith) in
      let f : is_first (get_or keys p []) (drop (suc p) keys) ≡ true =
      ap (is_first (get_or keys p [])) (drop-cons keys (suc p) [] (omega arith)) ∙ eq_same (get_or keys p []) (get_or keys (suc p) []) (sym g) in
      ap distinct (drop-cons keys p [] (omega arith))
      ∙ distinct_same (get_or keys p []) (drop (suc p) keys) f
      ∙ group n (suc p) e (omega arith) m (λ q a b. same q (omega arith) b ∙ sym g) (other g end)
      ∙ ap (λ (k : List ℕ). k ∷ distinct (drop e keys)) g
    where
      other : get_or keys (suc p) [] ≡ get_or keys p [] → (e ≡ length keys) ⊎ (same_bytes (get_or keys p []) (get_or keys e []) ≡ false)
          → (e ≡ length keys) ⊎ (same_bytes (get_or keys (suc p) []) (get_or keys e []) ≡ false)
      other g (inl z) = inl z
      other g (inr f) = inr (rw g f)

  -- the keys from p to e that are the same give one
  pub distinct-group : (p e : ℕ) → p < e → e ≤ length keys → ((q : ℕ) → p ≤ q → q < e → get_or keys q [] ≡ get_or keys p [])
      → (e ≡ length keys) ⊎ (same_bytes (get_or keys p []) (get_or keys e []) ≡ false)
      → distinct (drop p keys) ≡ get_or keys p [] ∷ distinct (drop e keys)
  distinct-group p e l m same end = group (e - suc p) p e (omega arith) m same end

-- each key but x
abbrev pub Apart : List ℕ → List (List ℕ) → Type 0
Apart x ks = All (λ (k : List ℕ). same_bytes k x ≡ false) ks

-- a key that isn't among the distinct ones is not among them all
pub distinct_apart : (x : List ℕ) (ks : List (List ℕ)) → Apart x (distinct ks) → Apart x ks
distinct_apart x [] a = tt
distinct_apart x (k ∷ ks) a = go (distinct_apart x ks) (is_first k ks) refl
  where
    first : (ls : List (List ℕ)) → is_first k ls ≡ true → Apart x ls → same_bytes k x ≡ false
    first [] t b = absurd (false≢true t)
    first (l ∷ ls) t b = rw (same_eq k l t) b.0

    go : (Apart x (distinct ks) → Apart x ks) → (t : Bool) → is_first k ks ≡ t → Apart x (k ∷ ks)
    go ih true t = let b : Apart x ks = ih (rw (distinct_same k ks t) at a) in (first ks t b, b)
    go ih false t = let b : Apart x (k ∷ distinct ks) = rw (distinct_other k ks t) at a in (b.0, ih b.1)

-- ---- keys that don't fall

-- a key is the same as the first of some keys or below it
abbrev pub StepTo : List ℕ → List (List ℕ) → Type 0
StepTo k [] = Unit {0}
StepTo k (l ∷ ls) = (k ≡ l) ⊎ (is_less (order_of k l) ≡ true)

-- so is each key to those behind it
abbrev pub Climbs : List (List ℕ) → Type 0
Climbs [] = Unit {0}
Climbs (k ∷ ks) = StepTo k ks × Climbs ks

climbs_drop : (p : ℕ) (ks : List (List ℕ)) → Climbs ks → Climbs (drop p ks)
climbs_drop zero ks c = c
climbs_drop (suc p) [] c = tt
climbs_drop (suc p) (k ∷ ks) c = climbs_drop p ks c.1

-- the first of the distinct keys is the first of them all
first_distinct : (k : List ℕ) (ks : List (List ℕ)) → below_first k (distinct ks) ≡ below_first k ks
unfolding below_first distinct
first_distinct k [] = refl
first_distinct k (l ∷ ls) = go (is_first l ls) refl (first_distinct k ls)
  where
    first : (ms : List (List ℕ)) → is_first l ms ≡ true → below_first k ms ≡ is_less (order_of k l)
    first [] t = absurd (false≢true t)
    first (m ∷ ms) t = rw (same_eq l m t)

    go : (t : Bool) → is_first l ls ≡ t → below_first k (distinct ls) ≡ below_first k ls
        → below_first k (cond t (distinct ls) (l ∷ distinct ls)) ≡ is_less (order_of k l)
    go true t ih = ih ∙ first ls t
    go false t ih = refl

-- the distinct keys of such rise
pub distinct_rises : (ks : List (List ℕ)) → Climbs ks → rising (distinct ks) ≡ true
unfolding rising distinct below_first
distinct_rises [] c = refl
distinct_rises (k ∷ ks) c = go (is_first k ks) refl (distinct_rises ks c.1)
  where
    step : (ls : List (List ℕ)) → is_first k ls ≡ false → StepTo k ls → below_first k ls ≡ true
    step [] t s = refl
    step (l ∷ ls) t (inl e) = absurd (false≢true (sym t ∙ eq_same k l e))
    step (l ∷ ls) t (inr b) = b

    go : (t : Bool) → is_first k ks ≡ t → rising (distinct ks) ≡ true → rising (distinct (k ∷ ks)) ≡ true
    go true t ih = rw (distinct_same k ks t) ih
    go false t ih = rw (distinct_other k ks t) (rw (first_distinct k ks, step ks t c.0) ih)

-- a key below those that follow is none of them
below_apart : (k : List ℕ) (ks : List (List ℕ)) → below_first k ks ≡ true → rising ks ≡ true → All (λ (l : List ℕ). same_bytes k l ≡ false) ks
unfolding below_first rising is_equal
below_apart k [] b r = tt
below_apart k (l ∷ ls) b r = (
  rw (same_order k l, (less_sides k l b).0),
  below_apart k ls (lower ls (and_left (below_first l ls) (rising ls) r)) (and_right (below_first l ls) (rising ls) r),
)
  where
    lower : (ms : List (List ℕ)) → below_first l ms ≡ true → below_first k ms ≡ true
    lower [] h = refl
    lower (m ∷ ms) h = less_trans k l m b h

module _ (k : List ℕ) (ks : List (List ℕ)) (r : rising (k ∷ ks) ≡ true) where
  pub keys_tail : rising ks ≡ true
  unfolding rising
  keys_tail = and_right (below_first k ks) (rising ks) r

  pub keys_apart : All (λ (l : List ℕ). same_bytes k l ≡ false) ks
  unfolding rising
  keys_apart = below_apart k ks (and_left (below_first k ks) (rising ks) r) keys_tail

same_flip : (k l : List ℕ) → same_bytes k l ≡ false → same_bytes l k ≡ false
same_flip k l f = go (same_bytes l k) refl
  where
    go : (t : Bool) → same_bytes l k ≡ t → t ≡ false
    go true t = sym (eq_same k l (sym (same_eq l k t))) ∙ f
    go false t = refl

apart_flip : (k : List ℕ) (ks : List (List ℕ)) → All (λ (l : List ℕ). same_bytes k l ≡ false) ks → Apart k ks
apart_flip k [] n = tt
apart_flip k (l ∷ ls) n = (same_flip k l n.0, apart_flip k ls n.1)

-- ---- one key worked

module _ (settings : Settings) (details : List (List ℕ)) (a : All IsRecord details) where
  module _ (k : List ℕ) (rows : List (List ℕ)) (w : All IsWide rows) where
    -- what the machine leaves under the key
    abbrev row : Option (List ℕ)
    row = key_row settings details k rows

    row_keyed : Each (KeyRow k) row
    row_keyed = run_keyed (setting_under settings k) k (row_with k rows) details a (found_keyed k rows w)

    -- a row that it leaves has the key
    pub key_row_key : (r : List ℕ) → key_row settings details k rows ≡ some r → row_key r ≡ k
    key_row_key r e = (each_some (KeyRow k) row r row_keyed e).key_is

    pub key_row_wide : (r : List ℕ) → key_row settings details k rows ≡ some r → length r ≡ 200
    key_row_wide r e = (each_some (KeyRow k) row r row_keyed e).wide

    -- under any other key nothing changes
    pub worked_other : (x : List ℕ) → same_bytes k x ≡ false
        → row_with x (with_stored (key_row settings details k rows) rows) ≡ row_with x rows
    worked_other x n = stored_other k rows x row row_keyed n

    -- under the key stands what the machine left
    pub worked_here : row_with k (with_stored (key_row settings details k rows) rows) ≡ key_row settings details k rows
    worked_here = stored_here k rows row row_keyed (missing (row_with k rows))
      where
        missing : (o : Option (List ℕ)) → run_row (setting_under settings k) o (details_under k details) ≡ none → o ≡ none
        missing none e = refl
        missing (some r) e = let s = run_stays (setting_under settings k) k (details_under k details) r in cc s.1

    pub worked_wide : All IsWide (with_stored (key_row settings details k rows) rows)
    worked_wide = stored_wide k rows row row_keyed w

  -- the rows after a key
  abbrev worked : List ℕ → List (List ℕ) → List (List ℕ)
  worked k rows = with_stored (key_row settings details k rows) rows

  module _ (l : is_local_list settings.list ≡ true) (k : List ℕ) (rows : List (List ℕ)) where
    -- rows stay sound, wide and in order
    pub worked_fit : Fit rows → Fit (with_stored (key_row settings details k rows) rows)
    worked_fit f =
        stored_fit k rows (key_row settings details k rows)
        (run_sound (setting_under settings k) k l (row_with k rows) details a (found_sound k rows f)) f

    pub worked_sound : All IsWide rows → are_sound_rows rows ≡ true
        → are_sound_rows (with_stored (key_row settings details k rows) rows) ≡ true
    worked_sound w s = (worked_fit (record { wide = w; sound = s })).sound

  -- one row more for a new key, else as many
  pub worked_one : (k : List ℕ) (rows : List (List ℕ)) → All IsWide rows → are_sound_rows rows ≡ true
      → length (with_stored (key_row settings details k rows) rows) ≡ length rows + cond (is_new_key settings details rows k) 1 0
  worked_one k rows w s = go (key_row settings details k rows) (row_keyed k rows w) (row_with k rows) refl
    where
      go : (o : Option (List ℕ)) → Each (KeyRow k) o → (q : Option (List ℕ)) → row_with k rows ≡ q
          → length (with_stored o rows) ≡ length rows + cond (is_none q && not (is_none o)) 1 0
      go none h none e = omega arith
      go none h (some old) e = omega arith
      go (some r) h none e = length-added r rows (rw h.key_is e) ∙ omega arith
      go (some r) h (some old) e = length_replaced r rows old (rows_rise rows s) (rw h.key_is e) ∙ omega arith

  -- whether another key is new stays
  pub new_other : (k x : List ℕ) (rows : List (List ℕ)) → All IsWide rows → same_bytes k x ≡ false
      → is_new_key settings details (with_stored (key_row settings details k rows) rows) x ≡ is_new_key settings details rows x
  new_other k x rows w n =
      ap (λ (o : Option (List ℕ)). is_none o && not (is_none (run_row (setting_under settings x) o (details_under x details)))) (worked_other k rows w x n)

  pub new_others : (k : List ℕ) (ks rows : List (List ℕ)) → All IsWide rows → All (λ (x : List ℕ). same_bytes k x ≡ false) ks
      → new_keys settings details ks (with_stored (key_row settings details k rows) rows) ≡ new_keys settings details ks rows
  unfolding new_keys
  new_others k [] rows w n = refl
  new_others k (x ∷ ks) rows w n = rw (new_other k x rows w n.0, new_others k ks rows w n.1)

  -- ---- keys in rising order

  -- as many rows come as there are new keys
  pub worked_length : is_local_list settings.list ≡ true → (ks rows : List (List ℕ)) → rising ks ≡ true → All IsWide rows → are_sound_rows rows ≡ true
      → length (worked_keys settings details ks rows) ≡ length rows + new_keys settings details ks rows
  unfolding worked_keys new_keys
  worked_length l [] rows r w s = omega arith
  worked_length l (k ∷ ks) rows r w s =
      worked_length l ks (worked k rows) (keys_tail k ks r) (worked_wide k rows w) (worked_sound l k rows w s)
      ∙ rw (worked_one k rows w s, new_others k ks rows w (keys_apart k ks r)) (omega arith)

  pub worked_low : is_local_list settings.list ≡ true → (ks rows : List (List ℕ)) → rising ks ≡ true → All IsWide rows → are_sound_rows rows ≡ true
      → length rows ≤ length (worked_keys settings details ks rows)
  worked_low l ks rows r w s = omega (arith, worked_length l ks rows r w s)

  pub worked_keys_fit : is_local_list settings.list ≡ true → (ks rows : List (List ℕ)) → Fit rows → Fit (worked_keys settings details ks rows)
  unfolding worked_keys
  worked_keys_fit l [] rows f = f
  worked_keys_fit l (k ∷ ks) rows f =
      worked_keys_fit l ks (with_stored (key_row settings details k rows) rows) (worked_fit l k rows f)

  -- under a key that is none of them nothing changes
  pub found_apart : (x : List ℕ) (ks rows : List (List ℕ)) → Apart x ks → All IsWide rows
      → row_with x (worked_keys settings details ks rows) ≡ row_with x rows
  unfolding worked_keys
  found_apart x [] rows n w = refl
  found_apart x (k ∷ ks) rows n w =
      found_apart x ks (with_stored (key_row settings details k rows) rows) n.1 (worked_wide k rows w) ∙ worked_other k rows w x n.0

  -- under each of them stands what the machine leaves of the row at the start
  pub found_among : (x : List ℕ) (ks rows : List (List ℕ)) → rising ks ≡ true → All IsWide rows
      → (row_with x (worked_keys settings details ks rows) ≡ key_row settings details x rows) ⊎ Apart x ks
  unfolding worked_keys
  found_among x [] rows r w = inr tt
  found_among x (k ∷ ks) rows r w =
      go (same_bytes k x) refl (found_among x ks (worked k rows) (keys_tail k ks r) (worked_wide k rows w))
    where
      go : (t : Bool) → same_bytes k x ≡ t
          → (row_with x (worked_keys settings details ks (worked k rows)) ≡ key_row settings details x (worked k rows)) ⊎ Apart x ks
          → (row_with x (worked_keys settings details ks (worked k rows)) ≡ key_row settings details x rows) ⊎ Apart x (k ∷ ks)
      go true t ih =
          inl (rw (← same_eq k x t)
          (found_apart k ks (worked k rows) (apart_flip k ks (keys_apart k ks r)) (worked_wide k rows w) ∙ worked_here k rows w))
      go false t (inl e) =
          inl (e ∙ ap (λ (o : Option (List ℕ)). run_row (setting_under settings x) o (details_under x details)) (worked_other k rows w x t))
      go false t (inr n) = inr (t, n)

-- ---- the keys of the details in key order

keys_get : (details : List (List ℕ)) (order : List ℕ) (q : ℕ) → q < length order → get_or (keys_at details order) q [] ≡ key_at details (get_or order q 0)
unfolding keys_at
keys_get details [] q h = absurd (not-suc-le-zero h)
keys_get details (i ∷ is) zero h = refl
keys_get details (i ∷ is) (suc q) h = keys_get details is q (le_of_suc-le-suc h)

pub length-keys_at : (details : List (List ℕ)) (order : List ℕ) → length (keys_at details order) ≡ length order
unfolding keys_at
length-keys_at details [] = refl
length-keys_at details (i ∷ is) = ap suc (length-keys_at details is)

apart_get : (x : List ℕ) (ks : List (List ℕ)) (q : ℕ) → Apart x ks → q < length ks → same_bytes (get_or ks q []) x ≡ false
apart_get x [] q n h = absurd (not-suc-le-zero h)
apart_get x (k ∷ ks) zero n h = n.0
apart_get x (k ∷ ks) (suc q) n h = apart_get x ks q n.1 (le_of_suc-le-suc h)

less_is : (k l : List ℕ) → order_of k l ≡ less → is_less (order_of k l) ≡ true
unfolding is_less
less_is k l e = rw e

-- one key does not fall to the next
abbrev NextKey : List (List ℕ) → ℕ → ℕ → Type 0
NextKey details i j = (key_at details i ≡ key_at details j) ⊎ (is_less (order_of (key_at details i) (key_at details j)) ≡ true)

climbs_at : (details : List (List ℕ)) (order : List ℕ)
    → ((q : ℕ) → suc q < length order → NextKey details (get_or order q 0) (get_or order (suc q) 0)) → Climbs (keys_at details order)
unfolding keys_at
climbs_at details [] h = tt
climbs_at details (i ∷ []) h = (tt, tt)
climbs_at details (i ∷ (j ∷ is)) h = (h 0 (omega arith), climbs_at details (j ∷ is) (λ q l. h (suc q) (omega arith)))

-- of the first own places of the order
module _ (details : List (List ℕ)) (order : List ℕ) (own : ℕ) (h : own ≤ length order) where
  own_length : length (take own order) ≡ own
  own_length = length-take-le own order h

  pub length_own : length (keys_at details (take own order)) ≡ own
  length_own = length-keys_at details (take own order) ∙ own_length

  pub own_key : (q : ℕ) → q < own → get_or (keys_at details (take own order)) q [] ≡ key_at details (get_or order q 0)
  own_key q l = keys_get details (take own order) q (rw own_length l) ∙ ap (key_at details) (get_or-take own order q 0 l)

module _ {state : List ℕ} {details : List (List ℕ)} {order : List ℕ} (o : InKeyOrder state details order) (own : ℕ) (own_in : own ≤ length order)
    (own_low : (q : ℕ) → q < own → rank_at state details (get_or order q 0) < no_rank) where
  -- the keys of the own details
  abbrev keys : List (List ℕ)
  keys = keys_at details (take own order)

  -- the key at a place of the order
  abbrev key : ℕ → List ℕ
  key q = key_at details (get_or order q 0)

  -- they don't fall
  pub keys_climb : Climbs (keys_at details (take own order))
  keys_climb =
      climbs_at details (take own order)
      (λ q l.
      let m : suc q < own = rw (own_length details order own own_in) at l in
      rw (get_or-take own order q 0 (omega arith), get_or-take own order (suc q) 0 m) (step q m (o.in_order q (suc q) (omega arith) (omega arith))))
    where
      own_is : (q : ℕ) → q < own → is_own_key state (key q) ≡ true
      own_is q l = below_own state (key q) (own_low q l)

      step : (q : ℕ) → suc q < own → Before state details (get_or order q 0) (get_or order (suc q) 0)
          → NextKey details (get_or order q 0) (get_or order (suc q) 0)
      step q m (inl b) =
          inr (less_is (key q) (key (suc q)) (rank_less state (key q) (key (suc q)) (own_is q (omega arith)) (own_is (suc q) m) b))
      step q m (inr b) = inl (rank_same state (key q) (key (suc q)) (own_is q (omega arith)) (own_is (suc q) m) b.0)

  -- so each run of the same key gives one, and these rise
  pub keys_rise : (p : ℕ) → rising (distinct (drop p (keys_at details (take own order)))) ≡ true
  keys_rise p = distinct_rises (drop p keys) (climbs_drop p keys keys_climb)

  module _ (own-high : (q : ℕ) → own ≤ q → q < length order → rank_at state details (get_or order q 0) ≡ no_rank) where
    -- an own key that is none of them has no detail
    pub apart_none : (x : List ℕ) → is_own_key state x ≡ true → Apart x (distinct (keys_at details (take own order))) → details_under x details ≡ []
    apart_none x t n =
        under_none x details
        (λ i l e. let c = o.all i l in none_at i c.0 c.1 c.2 e)
      where
        none_at : (i q : ℕ) → q < length order → get_or order q 0 ≡ i → key_at details i ≡ x → ⊥
        none_at i q h f e = go (ltb q own) refl
          where
            k : key_at details (get_or order q 0) ≡ x
            k = ap (key_at details) f ∙ e

            go : (b : Bool) → ltb q own ≡ b → ⊥
            go true b =
                let l : q < own = ltb-true q own b in
                let g : same_bytes (get_or keys q []) x ≡ false =
                apart_get x keys q (distinct_apart x keys n) (rw (length_own details order own own_in) l) in
                false≢true (sym g ∙ eq_same (get_or keys q []) x (own_key details order own own_in q l ∙ k))
            go false b =
                let r : rank_at state details (get_or order q 0) ≡ no_rank = own-high q (ltb-false q own b) h in
                let z : rank_of state x ≡ no_rank = sym (ap (rank_of state) k) ∙ r in
                omega (arith, own_below state x t)

module _ (settings : Settings) {details : List (List ℕ)} {order : List ℕ} (o : InKeyOrder settings.state details order) (own : ℕ)
    (own_in : own ≤ length order) (own_low : (q : ℕ) → q < own → rank_at settings.state details (get_or order q 0) < no_rank)
    (own-high : (q : ℕ) → own ≤ q → q < length order → rank_at settings.state details (get_or order q 0) ≡ no_rank) where
  -- the keys worked one behind the other leave the rows that the details leave in batch order
  pub worked_final : (rows : List (List ℕ)) → is_local_list settings.list ≡ true → All IsRecord details
      → All IsWide rows → are_sound_rows rows ≡ true
      → worked_keys settings details (distinct (keys_at details (take own order))) rows ≡ final_rows settings rows details
  worked_final rows l a w s =
      let f : Fit rows = record { wide = w; sound = s } in
      same_rows (worked_keys settings details (distinct (keys_at details (take own order))) rows) (final_rows settings rows details)
      (rows_rise (worked_keys settings details (distinct (keys_at details (take own order))) rows) (worked_keys_fit settings details a l (distinct (keys_at details (take own order))) rows f).sound)
      (rows_rise (final_rows settings rows details) (final_fit settings l rows details a f).sound)
      (λ x. at x (found_among settings details a x (distinct (keys_at details (take own order))) rows (keys_rise o own own_in own_low 0) w)
      ∙ sym (found_final settings x rows details a w))
    where
      kept : (x : List ℕ) → Apart x (distinct (keys_at details (take own order))) → (t : Bool) → is_own_key settings.state x ≡ t
          → row_with x rows ≡ run_row (setting_under settings x) (row_with x rows) (details_under x details)
      kept x n true t = sym (run_none (setting_under settings x) x (row_with x rows) (details_under x details) (apart_none o own own_in own_low own-high x t n))
      kept x n false t = sym (run_other (setting_under settings x) x t (row_with x rows) details a)

      at : (x : List ℕ)
          → (row_with x (worked_keys settings details (distinct (keys_at details (take own order))) rows) ≡ key_row settings details x rows) ⊎ Apart x (distinct (keys_at details (take own order)))
          → row_with x (worked_keys settings details (distinct (keys_at details (take own order))) rows)
          ≡ run_row (setting_under settings x) (row_with x rows) (details_under x details)
      at x (inl e) = e
      at x (inr n) = found_apart settings details a x (distinct (keys_at details (take own order))) rows n w ∙ kept x n (is_own_key settings.state x) refl
