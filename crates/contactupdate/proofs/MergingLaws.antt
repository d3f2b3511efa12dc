-- Laws of the merge from the table's end: the old records that are left stand at the front, and those that are placed stand at their
-- final places. Assumes nothing.
use Rattle.text.specs.Options.{one_or_none}
use Rattle.text.proofs.WidthLaws.{joined-append}
use Rattle.text.specs.Blocks.{over, blocks, joined, spliced}
use borrow.Author.Tests.{eq-eqb, ne_eqb, eqb-false}
use mathlib.Core.Path.{◌≡◌, refl, sym, ap, ◌∙◌}
use mathlib.Core.Bool.{Bool, true, false, cond}
use mathlib.Core.List.{List, [], ◌∷◌, ◌++◌, append_assoc, append-nil}
use mathlib.Core.Option.{Option, none, some}
use Prim.Native.Nat.{ℕ, zero, suc, ◌+◌, ◌-◌, ◌*◌, ◌/◌, ◌≤◌, ◌<◌}
use native.Mathlib.Omega.{arith}
use lib.Dec.{eqb, eqb-suc-zero}
use mir.Val.{bool_byte}
use Rattle.std.specs.List.{filter, sum_by, zip}
use Rattle.std.proofs.lemmas.List.Sums.{sum_by-cons}
use lib.ListN.{length, get_or, take, drop, length-append, length-take, length-drop, drop_of_length-le}
use lib.Seq.{drop-cons, take_at, drop_at, take-take, length-take-le, get_or_at}
use Rattle.text.proofs.BlocksLaws.{length-blocks, blocks_get, blocks_prefix, take-blocks}
use Rattle.text.proofs.SplicedLaws.{length-spliced, take-spliced}
use Rattle.contacttable.specs.Table.{contacts_of}
use Rattle.contactupdate.specs.Update.{records_of}
use Rattle.contactupdate.specs.KeyNumbers.{Held, spread, held_in}
use Rattle.contactupdate.specs.Noting.{held_after}
use Rattle.contactupdate.specs.Merging.{is_present, present_of, present_from, chosen, Ready, held_finally}

-- ---- what a key gets

module _ (held last : ℕ) where
  pub present_one : (last ≡ 0 → ⊥) → present_of held last ≡ 1
  unfolding present_of
  present_one h = rw (ne_eqb last 0 h)

  pub present_held : last ≡ 0 → present_of held last ≡ held
  unfolding present_of
  present_held h = rw (eq-eqb last 0 h)

-- the code's test as a number
pub present_bit : (held last : ℕ) (b : Bool) → b ≡ is_present held last → held ≤ 1 → bool_byte b ≡ present_of held last
unfolding present_of
present_bit held last b e l = rw e (go held last l)
  where
    go : (held last : ℕ) → held ≤ 1 → bool_byte (is_present held last) ≡ cond (eqb last 0) held 1
    go zero zero l = refl
    go zero (suc last) l = rw (eqb-suc-zero last)
    go (suc zero) zero l = refl
    go (suc zero) (suc last) l = rw (eqb-suc-zero last)
    go (suc (suc held)) last l = absurd (omega arith)

module _ (file table : List ℕ) (held last o : ℕ) where
  pub chosen-file : (last ≡ 0 → ⊥) → chosen file table held last o ≡ take 220 (drop ((last - 1) * 220) file)
  unfolding chosen
  chosen-file h = rw (ne_eqb last 0 h)

  pub chosen_table : last ≡ 0 → (held ≡ 0 → ⊥) → chosen file table held last o ≡ take 220 (drop (o * 220) table)
  unfolding chosen
  chosen_table h k = rw (eq-eqb last 0 h, ne_eqb held 0 k)

  pub chosen_none : last ≡ 0 → held ≡ 0 → chosen file table held last o ≡ []
  unfolding chosen
  chosen_none h k = rw (eq-eqb last 0 h, eq-eqb held 0 k)

-- ---- how many keys have a record

module _ (held lasts : List ℕ) where
  -- the keys from k on that have a record, counted
  pub present_zip : (d k : ℕ) → k + d ≡ length held → length held ≡ length lasts → ((j : ℕ) → get_or held j 0 ≤ 1)
      → length (filter (λ (p : ℕ × ℕ). is_present p.0 p.1) (zip (drop k held) (drop k lasts))) ≡ present_from k d held lasts
  unfolding present_from present_of
  present_zip zero k e w h = rw (drop_of_length-le held {i = k} (omega arith))
  present_zip (suc d) k e w h =
      let i : k < length held = omega arith in
      let j : k < length lasts = omega arith in
      rw (drop-cons held k 0 i, drop-cons lasts k 0 j)
      (go (get_or held k 0) (get_or lasts k 0) (h k) (present_zip d (suc k) (omega arith) w h))
    where
      go : (mark last : ℕ) → mark ≤ 1
          → length (filter (λ (p : ℕ × ℕ). is_present p.0 p.1) (zip (drop (suc k) held) (drop (suc k) lasts))) ≡ present_from (suc k) d held lasts
          → length (cond (is_present mark last) ((mark, last) ∷ filter (λ (p : ℕ × ℕ). is_present p.0 p.1) (zip (drop (suc k) held) (drop (suc k) lasts)))
          (filter (λ (p : ℕ × ℕ). is_present p.0 p.1) (zip (drop (suc k) held) (drop (suc k) lasts))))
          ≡ cond (eqb last 0) mark 1 + present_from (suc k) d held lasts
      go zero zero l r = omega (arith, r)
      go zero (suc last) l r = rw (eqb-suc-zero last) (omega (arith, r))
      go (suc zero) zero l r = omega (arith, r)
      go (suc zero) (suc last) l r = rw (eqb-suc-zero last) (omega (arith, r))
      go (suc (suc mark)) last l r = absurd (omega arith)

-- what a pair counts
abbrev pub present_number : ℕ × ℕ → ℕ
present_number p = present_of p.0 p.1

-- the pairs summed
pub present_sum : (held lasts : List ℕ) → length held ≡ length lasts → sum_by present_number (zip held lasts) ≡ present_from 0 (length held) held lasts
unfolding present_from
present_sum held lasts w = go (length held) 0 (omega arith)
  where
    go : (d k : ℕ) → k + d ≡ length held → sum_by present_number (zip (drop k held) (drop k lasts)) ≡ present_from k d held lasts
    go zero k e = rw (drop_of_length-le held {i = k} (omega arith)) refl
    go (suc d) k e =
        let i : k < length held = omega arith in
        let j : k < length lasts = omega arith in
        rw (drop-cons held k 0 i, drop-cons lasts k 0 j)
        (sum_by-cons present_number (get_or held k 0, get_or lasts k 0) (zip (drop (suc k) held) (drop (suc k) lasts))
        ∙ ap (λ (z : ℕ). present_of (get_or held k 0) (get_or lasts k 0) + z) (go d (suc k) (omega arith)))

-- at most as many as keys
pub present_few : (held lasts : List ℕ) (d k : ℕ) → ((j : ℕ) → get_or held j 0 ≤ 1) → present_from k d held lasts ≤ d
unfolding present_from present_of
present_few held lasts zero k h = omega arith
present_few held lasts (suc d) k h = go (eqb (get_or lasts k 0) 0) (present_few held lasts d (suc k) h)
  where
    go : (t : Bool) → present_from (suc k) d held lasts ≤ d → cond t (get_or held k 0) 1 + present_from (suc k) d held lasts ≤ suc d
    go true e = omega (arith, e, h k)
    go false e = omega (arith, e)

-- ---- what is spread, from its end

pub spread_end : (k d : ℕ) (f : Held) → spread k (suc d) f ≡ spread k d f ++ one_or_none (f (k + d))
unfolding spread
spread_end k zero f = let e : k + 0 ≡ k = omega arith in rw e (append-nil (one_or_none (f k)))
spread_end k (suc d) f =
    let e : suc k + d ≡ k + suc d = omega arith in
    ap (λ (z : List (List ℕ)). one_or_none (f k) ++ z) (spread_end (suc k) d f ∙ ap (λ (z : ℕ). spread (suc k) d f ++ one_or_none (f z)) e)
    ∙ sym (append_assoc (one_or_none (f k)) (spread (suc k) d f) (one_or_none (f (k + suc d))))

spread-last : (j : ℕ) (f : Held) → spread 0 (suc j) f ≡ spread 0 j f ++ one_or_none (f j)
spread-last j f = let e : 0 + j ≡ j = omega arith in spread_end 0 j f ∙ ap (λ (z : ℕ). spread 0 j f ++ one_or_none (f z)) e

spread_first : (k d : ℕ) (f : Held) → spread k (suc d) f ≡ one_or_none (f k) ++ spread (suc k) d f
unfolding spread
spread_first k d f = refl

spread_none : (k : ℕ) (f : Held) → spread k 0 f ≡ []
unfolding spread
spread_none k f = refl

-- where each key that one has the other has too
spread_more : (k d : ℕ) (f g : Held) → ((i : ℕ) → length (one_or_none (f i)) ≤ length (one_or_none (g i))) → length (spread k d f) ≤ length (spread k d g)
unfolding spread
spread_more k zero f g h = omega arith
spread_more k (suc d) f g h =
    rw (length-append (one_or_none (f k)) (spread (suc k) d f), length-append (one_or_none (g k)) (spread (suc k) d g))
    (omega (arith, h k, spread_more (suc k) d f g h))

drop-front : (m : List ℕ) (a : ℕ) (c : List ℕ) → a ≤ length m → drop a (spliced m a c) ≡ c ++ drop (a + length c) m
unfolding spliced
drop-front m a c h = drop_at (take a m) (c ++ drop (a + length c) m) a (length-take-le a m h)

-- ---- the merge

module _ (old new : Held) (n total : ℕ) (m₀ : List ℕ) where
  -- k keys are left, with o old records and p final ones
  pub record Merging (k o p : ℕ) (m : List ℕ) : Type 0 where
    pub olds : blocks 220 o m ≡ spread 0 k old
    pub left : p ≡ length (spread 0 k new)
    pub news : drop (p * 220) m ≡ joined (spread k (n - k) new) ++ drop (total * 220) m₀
    pub room : p * 220 ≤ length m
    pub wide : length m ≡ length m₀

  pub merging_start : (count : ℕ) → spread 0 n old ≡ blocks 220 count m₀ → total ≡ length (spread 0 n new) → total * 220 ≤ length m₀
      → Merging n count total m₀
  unfolding joined
  merging_start count e t r =
      let z : n - n ≡ 0 = omega arith in
      record { olds = sym e; left = t; news = rw (z, spread_none n new); room = r; wide = refl }

  module _ (sub : (i : ℕ) → length (one_or_none (old i)) ≤ length (one_or_none (new i))) (j o p : ℕ) (m : List ℕ) (g : Merging (suc j) o p m) where
    olds_are : o ≡ length (spread 0 j old) + length (one_or_none (old j))
    olds_are = sym (length-blocks 220 o m) ∙ ap length (g.olds ∙ spread-last j old) ∙ length-append (spread 0 j old) (one_or_none (old j))

    news_are : p ≡ length (spread 0 j new) + length (one_or_none (new j))
    news_are = g.left ∙ ap length (spread-last j new) ∙ length-append (spread 0 j new) (one_or_none (new j))

    pub old_room : length (one_or_none (old j)) ≤ o
    old_room = omega (arith, olds_are)

    pub new_room : length (one_or_none (new j)) ≤ p
    new_room = omega (arith, news_are)

    pub olds_within : o * 220 ≤ length m
    olds_within = omega (arith, olds_are, news_are, sub j, spread_more 0 j old new sub, g.room)

    -- the old record of this key
    pub old_at_lem : (r : List ℕ) → old j ≡ some r → (q : ℕ) → o ≡ q + 1 → take 220 (drop (q * 220) m) ≡ r
    old_at_lem r e q h =
        let c : length (one_or_none (old j)) ≡ 1 = ap (λ (z : Option (List ℕ)). length (one_or_none z)) e in
        let s : blocks 220 o m ≡ spread 0 j old ++ r ∷ [] =
        g.olds ∙ spread-last j old ∙ ap (λ (z : Option (List ℕ)). spread 0 j old ++ one_or_none z) e in
        sym (blocks_get 220 o m q (omega arith))
        ∙ ap (λ (z : List (List ℕ)). get_or z q []) s
        ∙ get_or_at (spread 0 j old) r [] [] q (omega (arith, olds_are))

    -- the key's record is written at its place
    pub merging_step : suc j ≤ n → (o' p' : ℕ) → o ≡ o' + length (one_or_none (old j)) → p ≡ p' + length (one_or_none (new j))
        → (c : List ℕ) → c ≡ joined (one_or_none (new j)) → length c ≡ length (one_or_none (new j)) * 220
        → Merging j o' p' (spliced m (p' * 220) c)
    merging_step l o' p' eo ep c ec lc =
        let within : o' ≤ p' = omega (arith, olds_are, news_are, spread_more 0 j old new sub) in
        let fits : p' * 220 + length c ≡ p * 220 = omega arith in
        let rm = g.room in
        let h : p' * 220 ≤ length m = omega arith in
        record {
          olds =
              sym (blocks_prefix 220 o' (spliced m (p' * 220) c))
              ∙ ap (blocks 220 o') (front h (omega arith)) ∙ blocks_prefix 220 o' m
              ∙ sym (take-blocks 220 o' o m (omega arith))
              ∙ ap (take o') (g.olds ∙ spread-last j old)
              ∙ take_at (spread 0 j old) (one_or_none (old j)) o' (omega (arith, olds_are));
          left = omega (arith, news_are);
          news =
              behind h ∙ ap (λ (z : ℕ). c ++ drop z m) fits ∙ ap (λ (z : List ℕ). c ++ z) g.news
              ∙ sym (append_assoc c (joined (spread (suc j) (n - suc j) new)) (drop (total * 220) m₀))
              ∙ ap (λ (z : List ℕ). z ++ drop (total * 220) m₀) (all l);
          room = rw (length-spliced m (p' * 220) c (omega arith)) h;
          wide = length-spliced m (p' * 220) c (omega arith) ∙ g.wide;
        }
      where
        front : p' * 220 ≤ length m → o' * 220 ≤ p' * 220 → take (o' * 220) (spliced m (p' * 220) c) ≡ take (o' * 220) m
        front h w =
            sym (take-take (o' * 220) (p' * 220) (spliced m (p' * 220) c) w)
            ∙ ap (take (o' * 220)) (take-spliced m (p' * 220) c h)
            ∙ take-take (o' * 220) (p' * 220) m w

        behind : p' * 220 ≤ length m → drop (p' * 220) (spliced m (p' * 220) c) ≡ c ++ drop (p' * 220 + length c) m
        behind h = drop-front m (p' * 220) c h

        all : suc j ≤ n → c ++ joined (spread (suc j) (n - suc j) new) ≡ joined (spread j (n - j) new)
        all w =
            let z : n - j ≡ suc (n - suc j) = omega arith in
            rw (z, spread_first j (n - suc j) new, joined-append (one_or_none (new j)) (spread (suc j) (n - suc j) new), ← ec)

  pub merging_end : (o p : ℕ) (m : List ℕ) → Merging 0 o p m → total * 220 ≤ length m₀ → m ≡ over (joined (spread 0 n new)) m₀
  unfolding over
  merging_end o p m g r =
      let e : p ≡ 0 = g.left ∙ ap length (spread_none 0 new) in
      let w : n - 0 ≡ n = omega arith in
      let d = g.news in
      let d' : m ≡ joined (spread 0 n new) ++ drop (total * 220) m₀ = rw (e, w) at d in
      let a : length m ≡ length (joined (spread 0 n new)) + length (drop (total * 220) m₀) =
      ap length d' ∙ length-append (joined (spread 0 n new)) (drop (total * 220) m₀) in
      let b = length-drop (total * 220) m₀ in
      let l : length (joined (spread 0 n new)) ≡ total * 220 = omega (arith, g.wide) in
      rw l d'

-- ---- the merge of a file into a table

module _ (all : List (List ℕ)) (lasts : List ℕ) (old : Held) where
  pub after_more : (i : ℕ) → length (one_or_none (old i)) ≤ length (one_or_none (held_after all lasts old i))
  unfolding held_after
  after_more i = go (eqb (get_or lasts i 0) 0) (old i)
    where
      go : (b : Bool) (o : Option (List ℕ)) → length (one_or_none o) ≤ length (one_or_none (cond b o (some (get_or all (get_or lasts i 0 - 1) []))))
      go true o = omega arith
      go false none = omega arith
      go false (some r) = omega arith

  pub after-length : (i h : ℕ) → h ≡ length (one_or_none (old i)) → length (one_or_none (held_after all lasts old i)) ≡ present_of h (get_or lasts i 0)
  unfolding held_after present_of
  after-length i h e = rw e (go (eqb (get_or lasts i 0) 0) (old i))
    where
      go : (b : Bool) (o : Option (List ℕ)) → length (one_or_none (cond b o (some (get_or all (get_or lasts i 0 - 1) [])))) ≡ cond b (length (one_or_none o)) 1
      go true o = refl
      go false o = refl

abbrev Chosen : List ℕ → List (List ℕ) → Type 0
Chosen c rows = (c ≡ joined rows) × (length c ≡ length rows * 220)

-- the bytes that a key gets are those of its record
module _ (file lasts : List ℕ) (old : Held) (n total : ℕ) (m₀ : List ℕ) (j o p : ℕ) (m : List ℕ)
    (g : Merging old (held_after (records_of file) lasts old) n total m₀ (suc j) o p m) (ln : get_or lasts j 0 ≤ length file / 220) where
  abbrev new : Held
  new = held_after (records_of file) lasts old

  from_file : (l : ℕ) → l ≤ length file / 220 → (l ≡ 0 → ⊥) → Chosen (take 220 (drop ((l - 1) * 220) file)) (get_or (records_of file) (l - 1) [] ∷ [])
  unfolding joined
  from_file l h z =
      let y : 0 < l = pos l z in (
        sym (blocks_get 220 (length file / 220) file (l - 1) (omega arith)) ∙ sym (append-nil (get_or (records_of file) (l - 1) [])),
        simp (length-take, length-drop) (omega arith),
      )
    where
      pos : (k : ℕ) → (k ≡ 0 → ⊥) → 0 < k
      pos zero q = absurd (q refl)
      pos (suc k) q = omega arith

  from_table : (q : ℕ) (x : Option (List ℕ)) → old j ≡ x → o ≡ q + length (one_or_none x)
      → Chosen (cond (eqb (length (one_or_none x)) 0) [] (take 220 (drop (q * 220) m))) (one_or_none x)
  unfolding joined
  from_table q none e h = (refl, refl)
  from_table q (some r) e h =
      let w = old_at_lem old new n total m₀ (after_more (records_of file) lasts old) j o p m g r e q h in (
        w ∙ sym (append-nil r),
        length-take-le 220 (drop (q * 220) m)
            (rw length-drop (omega (arith, olds_within old new n total m₀ (after_more (records_of file) lasts old) j o p m g))),
      )

  pub chosen_is : (h q : ℕ) → h ≡ length (one_or_none (old j)) → o ≡ q + length (one_or_none (old j))
      → Chosen (chosen file m h (get_or lasts j 0) q) (one_or_none (held_after (records_of file) lasts old j))
  unfolding chosen held_after
  chosen_is h q e f = rw e (go (eqb (get_or lasts j 0) 0) refl)
    where
      go : (b : Bool) → eqb (get_or lasts j 0) 0 ≡ b
          → Chosen (cond b (cond (eqb (length (one_or_none (old j))) 0) [] (take 220 (drop (q * 220) m))) (take 220 (drop ((get_or lasts j 0 - 1) * 220) file)))
          (one_or_none (cond b (old j) (some (get_or (records_of file) (get_or lasts j 0 - 1) []))))
      go true b = from_table q (old j) refl f
      go false b = from_file (get_or lasts j 0) ln (eqb-false (get_or lasts j 0) 0 b)

-- ---- one key's turn

module _ (table : List ℕ) (count total : ℕ) (file held lasts : List ℕ) (r : Ready table count total file held lasts) where
  abbrev pub Merges : ℕ → ℕ → ℕ → List ℕ → Type 0
  Merges k o p m = Merging (held_in (contacts_of count table)) (held_finally table count file lasts) 54000 total table k o p m

  one_small : (x : Option (List ℕ)) → length (one_or_none x) ≤ 1
  one_small none = omega arith
  one_small (some y) = omega arith

  module _ (k j o p : ℕ) (m : List ℕ) (ek : k ≡ suc j) (lk : k ≤ 54000) (g : Merges k o p m) where
    at_j : Merges (suc j) o p m
    at_j = rw (← ek) g

    flag : get_or held j 0 ≡ length (one_or_none (held_in (contacts_of count table) j))
    flag = r.flags j (omega arith)

    shows : length (one_or_none (held_finally table count file lasts j)) ≡ present_of (get_or held j 0) (get_or lasts j 0)
    shows = after-length (records_of file) lasts (held_in (contacts_of count table)) j (get_or held j 0) flag

    more : (i : ℕ) → length (one_or_none (held_in (contacts_of count table) i)) ≤ length (one_or_none (held_finally table count file lasts i))
    more = after_more (records_of file) lasts (held_in (contacts_of count table))

    pub turn_small : get_or held j 0 ≤ 1
    turn_small = omega (arith, flag, one_small (held_in (contacts_of count table) j))

    pub turn_old : get_or held j 0 ≤ o
    turn_old = omega (arith, flag, old_room (held_in (contacts_of count table)) (held_finally table count file lasts) 54000 total table more j o p m at_j)

    pub turn_new : present_of (get_or held j 0) (get_or lasts j 0) ≤ p
    turn_new = omega (arith, shows, new_room (held_in (contacts_of count table)) (held_finally table count file lasts) 54000 total table more j o p m at_j)

    pub turn_file : get_or lasts j 0 * 220 ≤ length file
    turn_file = omega (arith, r.numbers j)

    pub turn_olds : o * 220 ≤ length m
    turn_olds = olds_within (held_in (contacts_of count table)) (held_finally table count file lasts) 54000 total table more j o p m at_j

    pub turn_next : Merges j (o - get_or held j 0) (p - present_of (get_or held j 0) (get_or lasts j 0))
        (spliced m ((p - present_of (get_or held j 0) (get_or lasts j 0)) * 220) (chosen file m (get_or held j 0) (get_or lasts j 0) (o - get_or held j 0)))
    turn_next =
        let eo : o ≡ o - get_or held j 0 + length (one_or_none (held_in (contacts_of count table) j)) = omega (arith, flag, turn_old) in
        let ep : p ≡ p - present_of (get_or held j 0) (get_or lasts j 0) + length (one_or_none (held_finally table count file lasts j)) = omega (arith, shows, turn_new) in
        let ch = chosen_is file lasts (held_in (contacts_of count table)) 54000 total table j o p m at_j (r.numbers j) (get_or held j 0) (o - get_or held j 0) flag eo in
        merging_step (held_in (contacts_of count table)) (held_finally table count file lasts) 54000 total table more j o p m at_j (omega arith)
        (o - get_or held j 0) (p - present_of (get_or held j 0) (get_or lasts j 0)) eo ep
        (chosen file m (get_or held j 0) (get_or lasts j 0) (o - get_or held j 0)) ch.0 ch.1
