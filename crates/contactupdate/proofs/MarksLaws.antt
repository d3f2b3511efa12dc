-- Laws of marks: a table marked record by record, the keys that are marked afterwards, and the records of a file whose key isn't.
-- Assumes nothing.
use Rattle.text.specs.Options.{one_or_none}
use Rattle.contacttable.proofs.TableLaws.{contact_at, contacts_next, contacts_end}
use mathlib.Core.Path.{◌≡◌, refl, sym, ◌∙◌}
use mathlib.Core.Bool.{Bool, true, false, not, ◌||◌, cond}
use mathlib.Core.List.{List, [], ◌∷◌}
use mathlib.Core.Option.{Option, none, some}
use Prim.Native.Nat.{ℕ, zero, suc, ◌+◌, ◌-◌, ◌≤◌, ◌<◌}
use native.Mathlib.Omega.{arith}
use lib.Dec.{eqb}
use lib.ListN.{length, get_or, set, drop, length-set}
use lib.Seq.{get_or-set_same, get_or-set_other}
use borrow.Author.Tests.{eq-eqb, ne_eqb}
use Rattle.std.specs.List.{filter}
use Rattle.contactrecord.specs.Contact.{is_contact_key}
use Rattle.contacttable.specs.Table.{contacts_of, is_table}
use Rattle.contactupdate.specs.KeyNumbers.{key_number, held_in}
use Rattle.contactupdate.specs.Marks.{keys_marked, is_lacking, lacking_in, Flagged}
use Rattle.contactupdate.proofs.KeyNumberLaws.{key_number_below}
use Rattle.contactupdate.proofs.SpreadLaws.{Risen, risen_table}
use Rattle.text.proofs.ByteOrderLaws.{Heads, lower, upper, same, heads}

-- ---- from one record to the next

module _ (n : ℕ) (bytes : List ℕ) (i : ℕ) (held : List ℕ) where
  pub marked_next : i < n → keys_marked (drop i (contacts_of n bytes)) held
      ≡ keys_marked (drop (i + 1) (contacts_of n bytes)) (set held (key_number (contact_at bytes i)) 1)
  unfolding keys_marked
  marked_next h = rw (contacts_next n bytes i h)

  pub marked_end : n ≤ i → keys_marked (drop i (contacts_of n bytes)) held ≡ held
  unfolding keys_marked
  marked_end h = rw (contacts_end n bytes i h)

-- the records whose key isn't marked, counted
pub count_lacks : (held : List ℕ) → ((j : ℕ) → get_or held j 0 ≤ 1) → (file : List (List ℕ)) → length (filter (is_lacking held) file) ≡ lacking_in held file
unfolding lacking_in
count_lacks held h [] = refl
count_lacks held h (rec ∷ file) = go (is_contact_key rec) (get_or held (key_number rec) 0) (h (key_number rec)) (count_lacks held h file)
  where
    go : (key : Bool) (mark : ℕ) → mark ≤ 1 → length (filter (is_lacking held) file) ≡ lacking_in held file
        → length (cond (not key || eqb mark 0) (rec ∷ filter (is_lacking held) file) (filter (is_lacking held) file)) ≡ cond key (1 - mark) 1 + lacking_in held file
    go false mark l e = omega (arith, e)
    go true zero l e = omega (arith, e)
    go true (suc zero) l e = omega (arith, e)
    go true (suc (suc mark)) l e = absurd (omega arith)

-- ---- marks

marked-length : (rows : List (List ℕ)) (held : List ℕ) → length (keys_marked rows held) ≡ length held
unfolding keys_marked
marked-length [] held = refl
marked-length (r ∷ rows) held = marked-length rows (set held (key_number r) 1) ∙ length-set held (key_number r) 1

abbrev flag_of : Option (List ℕ) → ℕ → ℕ
flag_of none x = x
flag_of (some r) x = 1

marked_flags : (k : ℕ) (rows : List (List ℕ)) (held : List ℕ) → Risen k rows → length held ≡ 54000
    → (j : ℕ) → get_or (keys_marked rows held) j 0 ≡ flag_of (held_in rows j) (get_or held j 0)
unfolding keys_marked held_in
marked_flags k [] held h l j = refl
marked_flags k (r ∷ rows) held h l j =
    marked_flags (suc (key_number r)) rows (set held (key_number r) 1) h.2 (length-set held (key_number r) 1 ∙ l) j ∙ go (heads (key_number r) j)
  where
    other : (key_number r ≡ j → ⊥) → flag_of (held_in rows j) (get_or (set held (key_number r) 1) j 0)
        ≡ flag_of (cond (eqb (key_number r) j) (some r) (held_in rows j)) (get_or held j 0)
    other n = rw (get_or-set_other held (key_number r) j 1 0 (λ e. n (sym e)), ne_eqb (key_number r) j n)

    ones : (o : Option (List ℕ)) → flag_of o 1 ≡ 1
    ones none = refl
    ones (some x) = refl

    go : Heads (key_number r) j → flag_of (held_in rows j) (get_or (set held (key_number r) 1) j 0)
        ≡ flag_of (cond (eqb (key_number r) j) (some r) (held_in rows j)) (get_or held j 0)
    go (lower n) = other (λ e. omega arith)
    go (upper n) = other (λ e. omega arith)
    go (same n) =
        let b = key_number_below r h.0 in
        rw (← n, get_or-set_same held (key_number r) 1 0 (omega arith), eq-eqb (key_number r) (key_number r) refl) (ones (held_in rows (key_number r)))

pub flagged : (rows : List (List ℕ)) (held : List ℕ) → is_table rows ≡ true → length held ≡ 54000 → ((j : ℕ) → get_or held j 0 ≡ 0) → Flagged rows (keys_marked rows held)
flagged rows held t l z =
    record {
      wide = marked-length rows held ∙ l;
      flag = λ j. marked_flags 0 rows held (risen_table rows t) l j ∙ (rw (z j) (zero_flag (held_in rows j)));
    }
  where
    zero_flag : (o : Option (List ℕ)) → flag_of o 0 ≡ length (one_or_none o)
    zero_flag none = refl
    zero_flag (some x) = refl

pub flag_small : (rows : List (List ℕ)) (held : List ℕ) → Flagged rows held → (j : ℕ) → get_or held j 0 ≤ 1
flag_small rows held f j = go (held_in rows j) (f.flag j)
  where
    go : (o : Option (List ℕ)) → get_or held j 0 ≡ length (one_or_none o) → get_or held j 0 ≤ 1
    go none e = omega arith
    go (some x) e = omega arith
