-- Laws of a journal written, and of its entries key by key. Assumes nothing.
use Prim.Native.Nat.{ℕ, suc, ◌+◌, ◌≤◌, ◌<◌}
use mathlib.Core.Path.{◌≡◌, refl, sym, ap, ◌∙◌}
use mathlib.Core.Bool.{true}
use mathlib.Core.List.{List, [], ◌∷◌, ◌++◌, append_assoc, append-nil}
use mathlib.Core.Option.{Option, none, some}
use native.Mathlib.Omega.{arith}
use lib.ListN.{length, set, length-append}
use Rattle.text.specs.Blocks.{spliced}
use Rattle.text.specs.Options.{one_or_none}
use Rattle.text.proofs.SplicedLaws.{length-spliced, spliced_one, spliced-cons, spliced_then}
use Rattle.text.proofs.SameLaws.{same_self}
use Rattle.text.specs.ByteOrder.{rising}
use Rattle.casemaster.specs.Master.{keys_of}
use Rattle.casemaster.proofs.RowsLaws.{found_at}
use Rattle.casemaster.specs.Row.{row_key}
use Rattle.casemaster.specs.Rows.{row_with}
use Rattle.journal.specs.Numbers.{number_bytes}
use Rattle.journal.specs.Journal.{Entry, entry, entry_of, entries_from, entry_bytes, entries_bytes}
use Rattle.journal.specs.Writing.{Wrote, key_entries}

-- ---- the parts of a journal

pub wrote_counts : (d d₁ d₂ : List ℕ) (before after i r : ℕ) → length (number_bytes before) + length (number_bytes after) ≤ length d
    → i ≡ 0 + length (number_bytes before) → d₁ ≡ spliced d 0 (number_bytes before)
    → r ≡ i + length (number_bytes after) → d₂ ≡ spliced d₁ i (number_bytes after) → Wrote d 0 (number_bytes before ++ number_bytes after) d₂ r
wrote_counts d d₁ d₂ before after i r h e f g k =
    record {
      next_is = rw (length-append (number_bytes before) (number_bytes after)) (omega arith);
      bytes_are = k ∙ rw f (spliced_then d 0 i (number_bytes before) (number_bytes after) e (omega arith));
    }

pub length_new : (place : ℕ) → length (entry_bytes (entry place none)) ≡ length (number_bytes place) + 1
unfolding entry_bytes
length_new place = length-append (number_bytes place) (0 ∷ [])

pub length_old : (place : ℕ) (row : List ℕ) → length (entry_bytes (entry place (some row))) ≡ length (number_bytes place) + suc (length row)
unfolding entry_bytes
length_old place row = length-append (number_bytes place) (1 ∷ row)

module _ (d d₁ : List ℕ) (at place i : ℕ) (e : i ≡ at + length (number_bytes place)) (f : d₁ ≡ spliced d at (number_bytes place)) where
  pub same_length : at + length (number_bytes place) ≤ length d → length d₁ ≡ length d
  same_length h = ap length f ∙ length-spliced d at (number_bytes place) h

  pub new_inside : at + length (entry_bytes (entry place none)) ≤ length d → i < length d₁
  new_inside h = omega (arith, length_new place, same_length (omega (arith, length_new place)))

  pub wrote_new : at + length (entry_bytes (entry place none)) ≤ length d → Wrote d at (entry_bytes (entry place none)) (set d₁ i 0) (i + 1)
  unfolding entry_bytes
  wrote_new h =
      record {
        next_is = omega (arith, length_new place);
        bytes_are =
            spliced_one d₁ i 0 (new_inside h) ∙ rw f (spliced_then d at i (number_bytes place) (0 ∷ []) e (omega (arith, length_new place)));
      }

  module _ (row : List ℕ) (h : at + length (entry_bytes (entry place (some row))) ≤ length d) where
    pub old_inside : i + suc (length row) ≤ length d₁
    old_inside = omega (arith, length_old place row, same_length (omega (arith, length_old place row)))

    pub wrote_old : length row ≡ 200 → (d₃ : List ℕ) → d₃ ≡ spliced (set d₁ i 1) (i + 1) row → Wrote d at (entry_bytes (entry place (some row))) d₃ (i + 201)
    unfolding entry_bytes
    wrote_old l d₃ g =
        record {
          next_is = omega (arith, length_old place row);
          bytes_are =
              g ∙ spliced-cons d₁ i 1 row (omega (arith, old_inside))
              ∙ rw f (spliced_then d at i (number_bytes place) (1 ∷ row) e (omega (arith, length_old place row)));
        }

-- ---- entries key by key, in rising order of key, are the entries of the whole master

pub entries_append : (p : ℕ) (old a b : List (List ℕ)) → entries_from p old (a ++ b) ≡ entries_from p old a ++ entries_from (p + length a) old b
unfolding entries_from
entries_append p old [] b = let z : p + 0 ≡ p = omega arith in rw z
entries_append p old (row ∷ a) b =
    let z : p + suc (length a) ≡ suc p + length a = omega arith in
    ap (λ (x : List Entry). entry_of p (row_with (row_key row) old) row ++ x) (entries_append (suc p) old a b)
    ∙ sym (append_assoc (entry_of p (row_with (row_key row) old) row) (entries_from (suc p) old a) (entries_from (suc p + length a) old b))
    ∙ rw z

-- rows that are as they were
abbrev pub AreKept : List (List ℕ) → List (List ℕ) → Type 0
AreKept old [] = Unit {0}
AreKept old (row ∷ rows) = (row_with (row_key row) old ≡ some row) × AreKept old rows

pub kept_entries : (p : ℕ) (old rows : List (List ℕ)) → AreKept old rows → entries_from p old rows ≡ []
unfolding entries_from
kept_entries p old [] k = refl
kept_entries p old (row ∷ rows) k = rw (k.0, same_self row) (kept_entries (suc p) old rows k.1)

-- rows in the middle of some that rise are kept
pub middle_kept : (front mid back : List (List ℕ)) → rising (keys_of (front ++ (mid ++ back))) ≡ true → AreKept (front ++ (mid ++ back)) mid
middle_kept front [] back r = tt
middle_kept front (row ∷ mid) back r =
    let e : (front ++ row ∷ []) ++ (mid ++ back) ≡ front ++ (row ∷ (mid ++ back)) = append_assoc front (row ∷ []) (mid ++ back) in
    (found_at front row (mid ++ back) r, rw e at (middle_kept (front ++ row ∷ []) mid back (rw e r)))

-- the entry of one row, or none
pub entries_one : (p : ℕ) (old : List (List ℕ)) (key : List ℕ) (row : Option (List ℕ)) → ((r : List ℕ) → row ≡ some r → row_key r ≡ key)
    → entries_from p old (one_or_none row) ≡ key_entries p (row_with key old) row
unfolding entries_from
entries_one p old key none k = refl
entries_one p old key (some r) k = let e : row_key r ≡ key = k r refl in rw e (append-nil (entry_of p (row_with key old) r))

pub bytes_append : (a b : List Entry) → entries_bytes (a ++ b) ≡ entries_bytes a ++ entries_bytes b
unfolding entries_bytes
bytes_append [] b = refl
bytes_append (e ∷ a) b = rw (bytes_append a b) (sym (append_assoc (entry_bytes e) (entries_bytes a) (entries_bytes b)))
