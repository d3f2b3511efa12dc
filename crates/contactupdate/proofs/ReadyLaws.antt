-- What the passes before the merge leave: marked keys, noted numbers, and space. Assumes nothing.
use Rattle.text.specs.Options.{one_or_none}
use Rattle.text.specs.Blocks.{over, joined}
use Rattle.contactupdate.proofs.MarksLaws.{flag_small}
use mathlib.Core.Path.{◌≡◌, refl, sym, ap, ◌∙◌}
use mathlib.Core.Bool.{Bool, true, false, cond}
use mathlib.Core.List.{List, [], ◌∷◌}
use Prim.Native.Nat.{ℕ, zero, suc, ◌+◌, ◌-◌, ◌*◌, ◌/◌, ◌≤◌, ◌<◌}
use native.Mathlib.Omega.{arith}
use lib.Dec.{eqb}
use lib.ListN.{length, get_or, set, length-set, length-append}
use lib.Seq.{get_or-set_other}
use Rattle.text.proofs.ByteOrderLaws.{Heads, lower, upper, same, heads}
use Rattle.text.proofs.BlocksLaws.{length-blocks}
use Rattle.contactrecord.specs.Contact.{is_contact_key, is_faulty}
use Rattle.contacttable.specs.Table.{contacts_of, is_table}
use Rattle.contactupdate.specs.Update.{updated, records_of}
use Rattle.contactupdate.specs.KeyNumbers.{key_number, Held, spread, held_in}
use Rattle.contactupdate.specs.Marks.{lacking_in, Flagged}
use Rattle.contactupdate.specs.Noting.{held_after, lasts_from}
use Rattle.contactupdate.specs.Merging.{present_of, present_from, Ready, held_finally}
use Rattle.contactupdate.proofs.SpreadLaws.{risen_table, spread_same, spread_held, updated-spread}
use Rattle.contactupdate.proofs.MergingLaws.{after-length}

-- ---- noted numbers

lasts_length : (m : ℕ) (rs : List (List ℕ)) (lasts : List ℕ) → length (lasts_from m rs lasts) ≡ length lasts
unfolding lasts_from
lasts_length m [] lasts = refl
lasts_length m (r ∷ rs) lasts = lasts_length (m + 1) rs (cond (is_faulty r) lasts (set lasts (key_number r) m)) ∙ go (is_faulty r)
  where
    go : (b : Bool) → length (cond b lasts (set lasts (key_number r) m)) ≡ length lasts
    go true = refl
    go false = length-set lasts (key_number r) m

set_bound : (l : List ℕ) (i a b : ℕ) → ((j : ℕ) → get_or l j 0 ≤ b) → a ≤ b → (j : ℕ) → get_or (set l i a) j 0 ≤ b
set_bound [] i a b h k j = h j
set_bound (x ∷ l) zero a b h k zero = k
set_bound (x ∷ l) zero a b h k (suc j) = h (suc j)
set_bound (x ∷ l) (suc i) a b h k zero = h 0
set_bound (x ∷ l) (suc i) a b h k (suc j) = set_bound l i a b (λ q. h (suc q)) k j

lasts_bound : (b m : ℕ) (rs : List (List ℕ)) (lasts : List ℕ) → ((j : ℕ) → get_or lasts j 0 ≤ b) → m + length rs ≤ b + 1
    → (j : ℕ) → get_or (lasts_from m rs lasts) j 0 ≤ b
unfolding lasts_from
lasts_bound b m [] lasts h k j = h j
lasts_bound b m (r ∷ rs) lasts h k j =
    lasts_bound b (m + 1) rs (cond (is_faulty r) lasts (set lasts (key_number r) m)) (go (is_faulty r)) (omega arith) j
  where
    go : (c : Bool) → (q : ℕ) → get_or (cond c lasts (set lasts (key_number r) m)) q 0 ≤ b
    go true q = h q
    go false q = set_bound lasts (key_number r) m b h (omega arith) q

-- ---- how many keys have a record

module _ (held : List ℕ) (small : (j : ℕ) → get_or held j 0 ≤ 1) where
  present_small : (h a b : ℕ) → h ≤ 1 → present_of h a ≤ present_of h b + (1 - h)
  unfolding present_of
  present_small h a b l = go (eqb a 0) (eqb b 0)
    where
      go : (p q : Bool) → cond p h 1 ≤ cond q h 1 + (1 - h)
      go true true = omega arith
      go true false = omega arith
      go false true = omega arith
      go false false = omega arith

  present_past : (lasts : List ℕ) (q x k d : ℕ) → q < k → present_from k d held (set lasts q x) ≡ present_from k d held lasts
  unfolding present_from
  present_past lasts q x k zero h = refl
  present_past lasts q x k (suc d) h =
      rw (get_or-set_other lasts q k x 0 (λ e. omega arith), present_past lasts q x (suc k) d (omega arith))

  present_set : (lasts : List ℕ) (q x k d : ℕ) → present_from k d held (set lasts q x) ≤ present_from k d held lasts + (1 - get_or held q 0)
  unfolding present_from
  present_set lasts q x k zero = omega arith
  present_set lasts q x k (suc d) = go (heads k q) (present_set lasts q x (suc k) d)
    where
      other : (k ≡ q → ⊥) → present_from (suc k) d held (set lasts q x) ≤ present_from (suc k) d held lasts + (1 - get_or held q 0)
          → present_of (get_or held k 0) (get_or (set lasts q x) k 0) + present_from (suc k) d held (set lasts q x)
          ≤ present_of (get_or held k 0) (get_or lasts k 0) + present_from (suc k) d held lasts + (1 - get_or held q 0)
      other n i = rw (get_or-set_other lasts q k x 0 n) (omega arith)

      go : Heads k q → present_from (suc k) d held (set lasts q x) ≤ present_from (suc k) d held lasts + (1 - get_or held q 0)
          → present_of (get_or held k 0) (get_or (set lasts q x) k 0) + present_from (suc k) d held (set lasts q x)
          ≤ present_of (get_or held k 0) (get_or lasts k 0) + present_from (suc k) d held lasts + (1 - get_or held q 0)
      go (lower n) i = other (λ e. omega arith) i
      go (upper n) i = other (λ e. omega arith) i
      go (same n) i =
          let e = present_past lasts q x (suc k) d (omega arith) in
          let s = present_small (get_or held k 0) (get_or (set lasts q x) k 0) (get_or lasts k 0) (small k) in
          let y : get_or held k 0 ≡ get_or held q 0 = ap (λ (z : ℕ). get_or held z 0) n in
          omega arith

  present_grows : (n m : ℕ) (rs : List (List ℕ)) (lasts : List ℕ)
      → present_from 0 n held (lasts_from m rs lasts) ≤ present_from 0 n held lasts + lacking_in held rs
  unfolding lasts_from lacking_in
  present_grows n m [] lasts = omega arith
  present_grows n m (r ∷ rs) lasts =
      go (is_faulty r) refl (is_contact_key r) refl (present_grows n (m + 1) rs lasts) (present_grows n (m + 1) rs (set lasts (key_number r) m))
    where
      go : (b : Bool) → is_faulty r ≡ b → (s : Bool) → is_contact_key r ≡ s
          → present_from 0 n held (lasts_from (m + 1) rs lasts) ≤ present_from 0 n held lasts + lacking_in held rs
          → present_from 0 n held (lasts_from (m + 1) rs (set lasts (key_number r) m)) ≤ present_from 0 n held (set lasts (key_number r) m) + lacking_in held rs
          → present_from 0 n held (lasts_from (m + 1) rs (cond b lasts (set lasts (key_number r) m)))
          ≤ present_from 0 n held lasts + (cond s (1 - get_or held (key_number r) 0) 1 + lacking_in held rs)
      go true e s f i j = omega arith
      go false e true f i j = omega (arith, present_set lasts (key_number r) m 0 n)
      go false e false f i j = omega (arith, present_set lasts (key_number r) m 0 n)

present_spread : (all : List (List ℕ)) (held lasts : List ℕ) (old : Held) → ((j : ℕ) → get_or held j 0 ≡ length (one_or_none (old j)))
    → (k d : ℕ) → present_from k d held lasts ≡ length (spread k d (held_after all lasts old))
unfolding present_from spread
present_spread all held lasts old f k zero = refl
present_spread all held lasts old f k (suc d) =
    rw (
      length-append (one_or_none (held_after all lasts old k)) (spread (suc k) d (held_after all lasts old)),
      after-length all lasts old k (get_or held k 0) (f k),
      present_spread all held lasts old f (suc k) d,
    )

-- ---- ready for the merge

module _ (table : List ℕ) (count : ℕ) (file held zeros : List ℕ) (t : is_table (contacts_of count table) ≡ true)
    (f : Flagged (contacts_of count table) held) (lz : length zeros ≡ 54000) (z : (j : ℕ) → get_or zeros j 0 ≡ 0)
    (space : (count + lacking_in held (records_of file)) * 220 ≤ length table) (total : ℕ) (lasts : List ℕ)
    (el : lasts ≡ lasts_from 1 (records_of file) zeros) (et : total ≡ present_from 0 (length held) held lasts) where
  unchanged : (j : ℕ) → held_after (records_of file) zeros (held_in (contacts_of count table)) j ≡ held_in (contacts_of count table) j
  unfolding held_after
  unchanged j = rw (z j)

  table_is : spread 0 54000 (held_in (contacts_of count table)) ≡ contacts_of count table
  table_is = spread_held 54000 0 (contacts_of count table) refl (risen_table (contacts_of count table) t)

  counted : present_from 0 54000 held zeros ≡ count
  counted =
      present_spread (records_of file) held zeros (held_in (contacts_of count table)) f.flag 0 54000
      ∙ ap length (spread_same 0 54000 (held_after (records_of file) zeros (held_in (contacts_of count table))) (held_in (contacts_of count table)) (λ j n. unchanged j) ∙ table_is)
      ∙ length-blocks 220 count table

  within : total ≤ count + lacking_in held (records_of file)
  within =
      let g = present_grows held (flag_small (contacts_of count table) held f) 54000 1 (records_of file) zeros in
      let e : total ≡ present_from 0 54000 held (lasts_from 1 (records_of file) zeros) =
      et ∙ ap (λ (y : ℕ). present_from 0 y held lasts) f.wide ∙ ap (present_from 0 54000 held) el in
      omega (arith, counted)

  pub ready : Ready table count total file held lasts
  ready =
      record {
        flags = λ j h. f.flag j;
        numbers = λ j. rw el (lasts_bound (length file / 220) 1 (records_of file) zeros (λ q. omega (arith, z q)) (omega (arith, length-blocks 220 (length file / 220) file)) j);
        held_wide = f.wide;
        lasts_wide = ap length el ∙ lasts_length 1 (records_of file) zeros ∙ lz;
        room = omega (arith, within);
        total_is = et ∙ ap (λ (y : ℕ). present_from 0 y held lasts) f.wide ∙ present_spread (records_of file) held lasts (held_in (contacts_of count table)) f.flag 0 54000;
        table_is = table_is;
      }

  pub final : spread 0 54000 (held_finally table count file lasts) ≡ updated (records_of file) (contacts_of count table)
  final = rw el (sym (updated-spread (records_of file) (contacts_of count table) zeros t lz z))

  pub new_count : total ≡ length (updated (records_of file) (contacts_of count table))
  new_count = ready.total_is ∙ ap length final

  pub new_table_lem : (after : List ℕ) → after ≡ over (joined (spread 0 54000 (held_finally table count file lasts))) table
      → after ≡ over (joined (updated (records_of file) (contacts_of count table))) table
  new_table_lem after e = e ∙ ap (λ (y : List (List ℕ)). over (joined y) table) final
