-- Laws of the pass over a file, from one record to the next, and of the list of the faulty ones. Assumes nothing.
use Rattle.contacttable.proofs.TableLaws.{contact_at, contacts_next, contacts_end}
use mathlib.Core.Path.{◌≡◌, refl, sym, ap, ◌∙◌}
use mathlib.Core.Bool.{Bool, true, false, cond}
use mathlib.Core.List.{List, [], ◌∷◌, ◌++◌, append_assoc, append-nil}
use Prim.Native.Nat.{ℕ, ◌+◌, ◌≤◌, ◌<◌}
use native.Mathlib.Numerals.{add-one}
use native.Mathlib.Omega.{arith}
use lib.ListN.{length, set, take, drop, length-set, take-append-drop}
use lib.Seq.{drop-drop, take-suc-set, drop-set-lt, length-take-le}
use Rattle.text.specs.Blocks.{over}
use Rattle.contactrecord.specs.Contact.{is_faulty}
use Rattle.contacttable.specs.Table.{contacts_of}
use Rattle.contactupdate.specs.Update.{faulty_from}
use Rattle.contactupdate.specs.KeyNumbers.{key_number}
use Rattle.contactupdate.specs.Noting.{lasts_from}

-- ---- from one record to the next

module _ (n : ℕ) (bytes : List ℕ) (i : ℕ) where
  pub lasts_next : i < n → (lasts : List ℕ) → lasts_from (i + 1) (drop i (contacts_of n bytes)) lasts
      ≡ lasts_from (i + 1 + 1) (drop (i + 1) (contacts_of n bytes))
      (cond (is_faulty (contact_at bytes i)) lasts (set lasts (key_number (contact_at bytes i)) (i + 1)))
  unfolding lasts_from
  lasts_next h lasts = rw (contacts_next n bytes i h)

  pub lasts_end : n ≤ i → (k : ℕ) (lasts : List ℕ) → lasts_from k (drop i (contacts_of n bytes)) lasts ≡ lasts
  unfolding lasts_from
  lasts_end h k lasts = rw (contacts_end n bytes i h)

  faulty_next : i < n → faulty_from (i + 1) (drop i (contacts_of n bytes))
      ≡ cond (is_faulty (contact_at bytes i)) ((i + 1) ∷ faulty_from (i + 1 + 1) (drop (i + 1) (contacts_of n bytes)))
      (faulty_from (i + 1 + 1) (drop (i + 1) (contacts_of n bytes)))
  unfolding faulty_from
  faulty_next h = rw (contacts_next n bytes i h)

  faulty_end : n ≤ i → (k : ℕ) → faulty_from k (drop i (contacts_of n bytes)) ≡ []
  unfolding faulty_from
  faulty_end h k = rw (contacts_end n bytes i h)

-- ---- the list of faulty records

-- what is listed and what is to be listed are all the faulty ones; behind it the list is kept
pub record Listing (n : ℕ) (file before after : List ℕ) (listed i : ℕ) : Type 0 where
  pub whole : take listed after ++ faulty_from (i + 1) (drop i (contacts_of n file)) ≡ faulty_from 1 (contacts_of n file)
  pub kept : drop listed after ≡ drop listed before
  pub wide : length after ≡ length before

pub listing_start : (n : ℕ) (file before : List ℕ) → Listing n file before before 0 0
listing_start n file before = record { whole = refl; kept = refl; wide = refl }

pub listing_next : (n : ℕ) (file before after : List ℕ) (listed i : ℕ) → Listing n file before after listed i → i < n → listed < length before
    → Listing n file before (cond (is_faulty (contact_at file i)) (set after listed (i + 1)) after) (cond (is_faulty (contact_at file i)) (listed + 1) listed) (i + 1)
listing_next n file before after listed i g h l = go (is_faulty (contact_at file i)) refl
  where
    go : (b : Bool) → is_faulty (contact_at file i) ≡ b → Listing n file before (cond b (set after listed (i + 1)) after) (cond b (listed + 1) listed) (i + 1)
    go true e =
        let a : listed < length after = omega (arith, g.wide) in
        let t : take (listed + 1) (set after listed (i + 1)) ≡ take listed after ++ (i + 1) ∷ [] =
        ap (λ (z : ℕ). take z (set after listed (i + 1))) (add-one listed) ∙ take-suc-set after listed (i + 1) a in
        let f : faulty_from (i + 1) (drop i (contacts_of n file)) ≡ (i + 1) ∷ faulty_from (i + 1 + 1) (drop (i + 1) (contacts_of n file)) =
        faulty_next n file i h ∙ (rw e) in
        record {
          whole =
              rw t (append_assoc (take listed after) ((i + 1) ∷ []) (faulty_from (i + 1 + 1) (drop (i + 1) (contacts_of n file))))
              ∙ ap (λ (z : List ℕ). take listed after ++ z) (sym f) ∙ g.whole;
          kept = drop-set-lt (listed + 1) after listed (i + 1) (omega arith) ∙ more g.kept;
          wide = length-set after listed (i + 1) ∙ g.wide;
        }
      where
        more : drop listed after ≡ drop listed before → drop (listed + 1) after ≡ drop (listed + 1) before
        more k = sym (dd after) ∙ ap (drop 1) k ∙ dd before
          where
            dd : (z : List ℕ) → drop 1 (drop listed z) ≡ drop (listed + 1) z
            dd z = drop-drop 1 listed z
    go false e =
        let f : faulty_from (i + 1) (drop i (contacts_of n file)) ≡ faulty_from (i + 1 + 1) (drop (i + 1) (contacts_of n file)) =
        faulty_next n file i h ∙ (rw e) in
        record { whole = ap (λ (z : List ℕ). take listed after ++ z) (sym f) ∙ g.whole; kept = g.kept; wide = g.wide }

module _ (n : ℕ) (file before after : List ℕ) (listed i : ℕ) (g : Listing n file before after listed i) (h : n ≤ i) (l : listed ≤ length before) where
  listing_all : take listed after ≡ faulty_from 1 (contacts_of n file)
  listing_all =
      sym (append-nil (take listed after)) ∙ ap (λ (z : List ℕ). take listed after ++ z) (sym (faulty_end n file i h (i + 1))) ∙ g.whole

  pub listing_count : listed ≡ length (faulty_from 1 (contacts_of n file))
  listing_count = sym (length-take-le listed after (omega (arith, g.wide))) ∙ ap length listing_all

  pub listing_end : after ≡ over (faulty_from 1 (contacts_of n file)) before
  unfolding over
  listing_end = rw (← listing_count, ← listing_all, ← g.kept) (sym (take-append-drop listed after))

pub listed-within : (b : Bool) (listed i r : ℕ) → r ≡ cond b (listed + 1) listed → listed ≤ i → r ≤ i + 1
listed-within true listed i r e h = omega arith
listed-within false listed i r e h = omega arith
