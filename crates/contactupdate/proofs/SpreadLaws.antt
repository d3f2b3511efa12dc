-- A rising table is its records spread over the numbers of their keys; a record put into it is put at its number. So the records of a
-- file in turn leave, for each key, its last good record, else the old one. Assumes nothing.
use Rattle.text.specs.Options.{one_or_none}
use Rattle.contacttable.proofs.TableLaws.{table_good, table_rises}
use Rattle.contactrecord.proofs.ContactLaws.{good_key}
use mathlib.Core.Path.{◌≡◌, refl, sym, ap, ◌∙◌}
use mathlib.Core.Bool.{Bool, true, false, not, cond}
use mathlib.Core.List.{List, [], ◌∷◌, ◌++◌, map}
use mathlib.Core.Option.{Option, none, some}
use Prim.Native.Nat.{ℕ, zero, suc, ◌+◌, ◌-◌, ◌≤◌, ◌<◌}
use native.Mathlib.Omega.{arith}
use lib.Dec.{eqb}
use lib.ListN.{length, get_or, set, drop, length-set}
use lib.Seq.{get_or-set_same, get_or-set_other, get_or-drop, drop-drop}
use borrow.Author.Tests.{eqb-true, eq-eqb, ne_eqb, not-true}
use Rattle.text.specs.ByteOrder.{order_of, is_less, is_equal, below_first, rising}
use Rattle.text.specs.Fields.{every}
use Rattle.text.proofs.FieldsLaws.{and_left, and_right}
use Rattle.text.proofs.ByteOrderLaws.{Heads, lower, upper, same, heads, equal_same, block_below, block_level, block_above}
use Rattle.contactrecord.specs.ChartA3.{contact_key}
use Rattle.contactrecord.specs.Contact.{is_contact_key, is_faulty}
use Rattle.contacttable.specs.Table.{is_table}
use Rattle.contactupdate.specs.Update.{with_contact, updated}
use Rattle.contactupdate.specs.KeyNumbers.{key_number, Held, spread, held_in}
use Rattle.contactupdate.specs.Noting.{lasts_from, held_after}
use Rattle.contactupdate.proofs.KeyNumberLaws.{Stand, below, level, above, keys_stand, key_number_below}

-- ---- a record's place among others

module _ (r s : List ℕ) (table : List (List ℕ)) (t : is_contact_key r ≡ true) (u : is_contact_key s ≡ true) where
  with_less : key_number r < key_number s → with_contact r (s ∷ table) ≡ r ∷ s ∷ table
  unfolding with_contact
  with_less h = go (keys_stand r s t u)
    where
      go : Stand r s → with_contact r (s ∷ table) ≡ r ∷ s ∷ table
      go (below k o) = block_below 5 r s table o
      go (level k o) = absurd (omega arith)
      go (above k o) = absurd (omega arith)

  with_equal : key_number r ≡ key_number s → with_contact r (s ∷ table) ≡ r ∷ table
  unfolding with_contact is_equal
  with_equal h = go (keys_stand r s t u)
    where
      go : Stand r s → with_contact r (s ∷ table) ≡ r ∷ table
      go (below k o) = absurd (omega arith)
      go (level k o) = block_level 5 r s table (equal_same (contact_key r) (contact_key s) (ap is_equal o))
      go (above k o) = absurd (omega arith)

  with_greater : key_number s < key_number r → with_contact r (s ∷ table) ≡ s ∷ with_contact r table
  unfolding with_contact
  with_greater h = go (keys_stand r s t u)
    where
      go : Stand r s → with_contact r (s ∷ table) ≡ s ∷ with_contact r table
      go (below k o) = absurd (omega arith)
      go (level k o) = absurd (omega arith)
      go (above k o) = block_above 5 r s table o

  -- what stands in rising order has rising numbers
  less_place : is_less (order_of (contact_key r) (contact_key s)) ≡ true → key_number r < key_number s
  unfolding is_less
  less_place l = go (keys_stand r s t u)
    where
      go : Stand r s → key_number r < key_number s
      go (below k o) = k
      go (level k o) = let z : true ≡ false = sym l ∙ ap is_less o in let y : ◌≡◌ {A = ℕ} 0 1 = cc in absurd (omega arith)
      go (above k o) = let z : true ≡ false = sym l ∙ ap is_less o in let y : ◌≡◌ {A = ℕ} 0 1 = cc in absurd (omega arith)

-- ---- records spread over their numbers

-- each record stands at its own number
abbrev pub Placed : Held → Type 0
Placed f = (k : ℕ) (rec : List ℕ) → f k ≡ some rec → (is_contact_key rec ≡ true) × (key_number rec ≡ k)

-- a record put at its number
abbrev pub put_at : List ℕ → Held → Held
put_at r f k = cond (eqb (key_number r) k) (some r) (f k)

pub spread_same : (k d : ℕ) (f g : Held) → ((j : ℕ) → k ≤ j → f j ≡ g j) → spread k d f ≡ spread k d g
unfolding spread
spread_same k zero f g h = refl
spread_same k (suc d) f g h = rw (h k (omega arith), spread_same (suc k) d f g (λ j l. h j (omega arith)))

module _ (r : List ℕ) (t : is_contact_key r ≡ true) (f : Held) (p : Placed f) where
  with_first : (k d : ℕ) → key_number r < k → with_contact r (spread k d f) ≡ r ∷ spread k d f
  unfolding spread with_contact
  with_first k zero h = refl
  with_first k (suc d) h = go (f k) refl (with_first (suc k) d (omega arith))
    where
      go : (o : Option (List ℕ)) → f k ≡ o → with_contact r (spread (suc k) d f) ≡ r ∷ spread (suc k) d f
          → with_contact r (one_or_none o ++ spread (suc k) d f) ≡ r ∷ (one_or_none o ++ spread (suc k) d f)
      go none e i = i
      go (some s) e i = with_less r s (spread (suc k) d f) t (p k s e).0 (omega (arith, (p k s e).1))

  -- a record put into what is spread is put at its number
  pub with_spread : (k d : ℕ) → k ≤ key_number r → key_number r < k + d → with_contact r (spread k d f) ≡ spread k d (put_at r f)
  unfolding spread
  with_spread k zero l h = absurd (omega arith)
  with_spread k (suc d) l h = go (heads (key_number r) k) (f k) refl (λ n. with_spread (suc k) d n (omega arith))
    where
      rest : key_number r ≡ k → spread (suc k) d f ≡ spread (suc k) d (put_at r f)
      rest e = spread_same (suc k) d f (put_at r f) (λ j n. sym (rw (ne_eqb (key_number r) j (λ z. omega arith))))

      go : Heads (key_number r) k → (o : Option (List ℕ)) → f k ≡ o
          → (k < key_number r → with_contact r (spread (suc k) d f) ≡ spread (suc k) d (put_at r f))
          → with_contact r (one_or_none o ++ spread (suc k) d f) ≡ one_or_none (cond (eqb (key_number r) k) (some r) o) ++ spread (suc k) d (put_at r f)
      go (lower n) o e i = absurd (omega arith)
      go (same n) none e i = rw (eq-eqb (key_number r) k n, ← rest n) (with_first (suc k) d (omega arith))
      go (same n) (some s) e i =
          rw (eq-eqb (key_number r) k n, ← rest n) (with_equal r s (spread (suc k) d f) t (p k s e).0 (omega (arith, (p k s e).1)))
      go (upper n) none e i = rw (ne_eqb (key_number r) k (λ z. omega arith)) (i n)
      go (upper n) (some s) e i =
          rw (ne_eqb (key_number r) k (λ z. omega arith))
          (with_greater r s (spread (suc k) d f) t (p k s e).0 (omega (arith, (p k s e).1)) ∙ ap (λ (z : List (List ℕ)). s ∷ z) (i n))

  pub placed-put : Placed (put_at r f)
  placed-put k rec e = go (eqb (key_number r) k) refl e
    where
      go : (b : Bool) → eqb (key_number r) k ≡ b → cond b (some r) (f k) ≡ some rec → (is_contact_key rec ≡ true) × (key_number rec ≡ k)
      go true q z = let y : r ≡ rec = cc in rw (← y) (t, eqb-true (key_number r) k q)
      go false q z = p k rec z

-- ---- a table

-- sound records with rising numbers from k on
abbrev pub Risen : ℕ → List (List ℕ) → Type 0
Risen k [] = Unit {0}
Risen k (r ∷ rs) = (is_contact_key r ≡ true) × (k ≤ key_number r) × Risen (suc (key_number r)) rs

risen_from : (k : ℕ) (rs : List (List ℕ)) → every (λ rec. not (is_faulty rec)) rs ≡ true → rising (map contact_key rs) ≡ true
    → ((r : List ℕ) → is_contact_key r ≡ true → (rest : List (List ℕ)) → rs ≡ r ∷ rest → k ≤ key_number r) → Risen k rs
unfolding rising below_first
risen_from k [] e o h = tt
risen_from k (r ∷ rs) e o h =
    let t = good_key r (not-true _ (and_left (not (is_faulty r)) (every (λ rec. not (is_faulty rec)) rs) e)) in (
      t,
      h r t rs refl,
      risen_from (suc (key_number r)) rs (and_right (not (is_faulty r)) _ e)
          (and_right (below_first (contact_key r) (map contact_key rs)) (rising (map contact_key rs)) o) (next t rs (and_left _ (rising (map contact_key rs)) o)),
    )
  where
    next : is_contact_key r ≡ true → (qs : List (List ℕ)) → below_first (contact_key r) (map contact_key qs) ≡ true
        → (s : List ℕ) → is_contact_key s ≡ true → (rest : List (List ℕ)) → qs ≡ s ∷ rest → key_number r < key_number s
    next t [] b s u rest q = let z : ◌≡◌ {A = ℕ} 0 1 = cc in absurd (omega arith)
    next t (q₁ ∷ qs) b s u rest q =
        let y : q₁ ≡ s = cc in
        less_place r s [] t u (ap (λ (z : List ℕ). is_less (order_of (contact_key r) (contact_key z))) (sym y) ∙ b)

pub risen_table : (table : List (List ℕ)) → is_table table ≡ true → Risen 0 table
risen_table table t = risen_from 0 table (table_good table t) (table_rises table t) (λ r u rest e. omega arith)

risen_less : (k m : ℕ) (rs : List (List ℕ)) → k ≤ m → Risen m rs → Risen k rs
risen_less k m [] l h = tt
risen_less k m (r ∷ rs) l h = (h.0, omega (arith, h.1), h.2)

held_none : (k j : ℕ) (rs : List (List ℕ)) → Risen k rs → j < k → held_in rs j ≡ none
unfolding held_in
held_none k j [] h l = refl
held_none k j (r ∷ rs) h l =
    rw (ne_eqb (key_number r) j (λ z. omega (arith, h.1))) (held_none (suc (key_number r)) j rs h.2 (omega (arith, h.1)))

pub placed_held : (k : ℕ) (rs : List (List ℕ)) → Risen k rs → Placed (held_in rs)
unfolding held_in
placed_held k [] h j rec e = let z : ◌≡◌ {A = ℕ} 0 1 = cc in absurd (omega arith)
placed_held k (r ∷ rs) h j rec e = placed-put r h.0 (held_in rs) (placed_held (suc (key_number r)) rs h.2) j rec e

pub spread_held : (d k : ℕ) (rs : List (List ℕ)) → k + d ≡ 54000 → Risen k rs → spread k d (held_in rs) ≡ rs
unfolding spread held_in
spread_held zero k [] e h = refl
spread_held zero k (r ∷ rs) e h = absurd (omega (arith, h.1, key_number_below r h.0))
spread_held (suc d) k [] e h = spread_held d (suc k) [] (omega arith) tt
spread_held (suc d) k (r ∷ rs) e h =
    go (heads (key_number r) k)
    (λ n. spread_held d (suc k) rs (omega arith) (risen_less (suc k) (suc (key_number r)) rs (omega arith) h.2))
    (λ n. spread_held d (suc k) (r ∷ rs) (omega arith) (h.0, n, h.2))
  where
    go : Heads (key_number r) k → (key_number r ≡ k → spread (suc k) d (held_in rs) ≡ rs)
        → (k < key_number r → spread (suc k) d (held_in (r ∷ rs)) ≡ r ∷ rs)
        → one_or_none (cond (eqb (key_number r) k) (some r) (held_in rs k)) ++ spread (suc k) d (held_in (r ∷ rs)) ≡ r ∷ rs
    go (lower n) i j = absurd (omega (arith, h.1))
    go (same n) i j =
        rw (eq-eqb (key_number r) k n)
        (ap (λ (z : List (List ℕ)). r ∷ z)
        (spread_same (suc k) d (held_in (r ∷ rs)) (held_in rs) (λ q l. rw (ne_eqb (key_number r) q (λ z. omega arith))) ∙ i n))
    go (upper n) i j =
        rw (ne_eqb (key_number r) k (λ z. omega arith), held_none (suc (key_number r)) k rs h.2 (omega arith)) (j n)

-- ---- the records of a file in turn

module _ (all : List (List ℕ)) (old : Held) where
  -- the number of a good record noted
  after-set : (lasts : List ℕ) (m : ℕ) (r : List ℕ) → key_number r < length lasts → get_or all m [] ≡ r
      → (j : ℕ) → held_after all (set lasts (key_number r) (m + 1)) old j ≡ put_at r (held_after all lasts old) j
  unfolding held_after
  after-set lasts m r l g j = go (heads (key_number r) j)
    where
      go : Heads (key_number r) j → held_after all (set lasts (key_number r) (m + 1)) old j ≡ put_at r (held_after all lasts old) j
      go (same n) =
          let z : m + 1 - 1 ≡ m = omega arith in
          rw (← n, get_or-set_same lasts (key_number r) (m + 1) 0 l, ne_eqb (m + 1) 0 (λ y. omega arith), z, g, eq-eqb (key_number r) (key_number r) refl)
      go (lower n) = rw (get_or-set_other lasts (key_number r) j (m + 1) 0 (λ y. omega arith), ne_eqb (key_number r) j (λ y. omega arith))
      go (upper n) = rw (get_or-set_other lasts (key_number r) j (m + 1) 0 (λ y. omega arith), ne_eqb (key_number r) j (λ y. omega arith))

  in_turn : (n : ℕ) → n ≡ 54000 → (m : ℕ) (rest : List (List ℕ)) (lasts : List ℕ) → drop m all ≡ rest → length lasts ≡ n
      → Placed (held_after all lasts old)
      → updated rest (spread 0 n (held_after all lasts old)) ≡ spread 0 n (held_after all (lasts_from (m + 1) rest lasts) old)
  unfolding updated lasts_from
  in_turn n en m [] lasts e l p = refl
  in_turn n en m (r ∷ rest) lasts e l p =
      go (is_faulty r) refl (in_turn n en (m + 1) rest lasts next l p)
      (in_turn n en (m + 1) rest (set lasts (key_number r) (m + 1)) next (length-set lasts (key_number r) (m + 1) ∙ l))
    where
      next : drop (m + 1) all ≡ rest
      next = sym (drop-drop 1 m all) ∙ ap (drop 1) e

      here : get_or all m [] ≡ r
      here = let z : m + 0 ≡ m = omega arith in ap (λ (k : ℕ). get_or all k []) (sym z) ∙ sym (get_or-drop m all 0 []) ∙ ap (λ (y : List (List ℕ)). get_or y 0 []) e

      go : (b : Bool) → is_faulty r ≡ b
          → updated rest (spread 0 n (held_after all lasts old)) ≡ spread 0 n (held_after all (lasts_from (m + 1 + 1) rest lasts) old)
          → (Placed (held_after all (set lasts (key_number r) (m + 1)) old) → updated rest (spread 0 n (held_after all (set lasts (key_number r) (m + 1)) old)) ≡ spread 0 n (held_after all (lasts_from (m + 1 + 1) rest (set lasts (key_number r) (m + 1))) old))
          → updated rest (cond b (spread 0 n (held_after all lasts old)) (with_contact r (spread 0 n (held_after all lasts old))))
          ≡ spread 0 n (held_after all (lasts_from (m + 1 + 1) rest (cond b lasts (set lasts (key_number r) (m + 1)))) old)
      go true b i j = i
      go false b i j =
          let t = good_key r b in
          let w = key_number_below r t in
          let q : (x : ℕ) → (held_after all (set lasts (key_number r) (m + 1)) old) x ≡ put_at r (held_after all lasts old) x = after-set lasts m r (omega arith) here in
          rw (with_spread r t (held_after all lasts old) p 0 n (omega arith) (omega arith), ← spread_same 0 n (held_after all (set lasts (key_number r) (m + 1)) old) (put_at r (held_after all lasts old)) (λ x y. q x))
          (j (λ k rec z. placed-put r t (held_after all lasts old) p k rec (sym (q k) ∙ z)))

-- the theorem: the file's records in turn are merged in one go
pub updated-spread : (file table : List (List ℕ)) (zeros : List ℕ) → is_table table ≡ true → length zeros ≡ 54000 → ((j : ℕ) → get_or zeros j 0 ≡ 0)
    → updated file table ≡ spread 0 54000 (held_after file (lasts_from 1 file zeros) (held_in table))
unfolding held_after
updated-spread file table zeros t l z =
    let h = risen_table table t in
    let q : (j : ℕ) → held_after file zeros (held_in table) j ≡ held_in table j = λ j. rw (z j) in
    let s : spread 0 54000 (held_after file zeros (held_in table)) ≡ table =
    spread_same 0 54000 (held_after file zeros (held_in table)) (held_in table) (λ j n. q j) ∙ spread_held 54000 0 table refl h in
    ap (updated file) (sym s)
    ∙ in_turn file (held_in table) 54000 refl 0 file zeros refl l (λ k rec e. placed_held 0 table h k rec (sym (q k) ∙ e))
