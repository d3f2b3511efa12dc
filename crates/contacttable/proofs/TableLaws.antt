-- Laws of the records of a table or a file, one by one, and of a table that isn't refused. Assumes nothing.
use mathlib.Core.Path.{◌≡◌}
use mathlib.Core.Bool.{true, false, not, ◌||◌}
use mathlib.Core.List.{List, [], ◌∷◌, map}
use Prim.Native.Nat.{ℕ, ◌+◌, ◌*◌, ◌/◌, ◌%◌, ◌≤◌, ◌<◌}
use native.Mathlib.Omega.{arith}
use lib.Dec.{eqb, ltb}
use lib.ListN.{length, take, drop, length-take, length-drop, drop_of_length-le}
use borrow.Author.Tests.{eqb-true, ltb-false, not-false, not-true}
use Rattle.text.specs.Fields.{every}
use Rattle.text.specs.ByteOrder.{rising}
use Rattle.text.proofs.BlocksLaws.{blocks-next, length-blocks}
use Rattle.text.proofs.BoolLaws.{or_left, or_right}
use Rattle.text.proofs.FieldsLaws.{and_left, and_right, every_drop}
use Rattle.contactrecord.specs.ChartA3.{contact_key}
use Rattle.contactrecord.specs.Contact.{is_faulty}
use Rattle.contacttable.specs.Table.{contacts_of, is_table, is_wrong_table}

-- ---- the record at i of n

abbrev pub contact_at : List ℕ → ℕ → List ℕ
contact_at bytes i = take 220 (drop (i * 220) bytes)

module _ (n : ℕ) (bytes : List ℕ) (i : ℕ) where
  pub contacts_next : i < n → drop i (contacts_of n bytes) ≡ contact_at bytes i ∷ drop (i + 1) (contacts_of n bytes)
  contacts_next = blocks-next 220 n bytes i

  pub contacts_end : n ≤ i → drop i (contacts_of n bytes) ≡ []
  contacts_end h = drop_of_length-le (contacts_of n bytes) {i = i} (rw (length-blocks 220 n bytes) h)

  pub length_contact : i < n → n * 220 ≤ length bytes → length (contact_at bytes i) ≡ 220
  length_contact h l = simp (length-take, length-drop) (omega arith)

-- ---- a table

module _ (table : List (List ℕ)) (t : is_table table ≡ true) where
  pub table_good : every (λ rec. not (is_faulty rec)) table ≡ true
  unfolding is_table
  table_good = and_left (every (λ rec. not (is_faulty rec)) table) (rising (map contact_key table)) t

  pub table_rises : rising (map contact_key table) ≡ true
  unfolding is_table
  table_rises = and_right (every (λ rec. not (is_faulty rec)) table) (rising (map contact_key table)) t

-- each record of a table is good
pub contact_good : (n : ℕ) (bytes : List ℕ) (i : ℕ) → is_table (contacts_of n bytes) ≡ true → i < n → is_faulty (contact_at bytes i) ≡ false
contact_good n bytes i t h =
    let e = every_drop (λ rec. not (is_faulty rec)) i (contacts_of n bytes) (table_good (contacts_of n bytes) t) in
    not-true _
    (and_left (not (is_faulty (contact_at bytes i))) (every (λ rec. not (is_faulty rec)) (drop (i + 1) (contacts_of n bytes)))
    (rw (contacts_next n bytes i h) at e))

-- ---- a lent table that isn't refused by 18

-- whole records, no more counted than there are, and these a table
pub record Right (bytes : List ℕ) (count : ℕ) : Type 0 where
  pub whole : length bytes % 220 ≡ 0
  pub few : count ≤ length bytes / 220
  pub table : is_table (contacts_of count bytes) ≡ true

pub right_table : (bytes : List ℕ) (count : ℕ) → is_wrong_table bytes count ≡ false → Right bytes count
unfolding is_wrong_table
right_table bytes count e =
    let a = not (eqb (length bytes % 220) 0) in
    let b = ltb (length bytes / 220) count in
    let c = not (is_table (contacts_of count bytes)) in
    record {
      whole = eqb-true (length bytes % 220) 0 (not-false _ (or_left a b (or_left (a || b) c e)));
      few = ltb-false (length bytes / 220) count (or_right a b (or_left (a || b) c e));
      table = not-false _ (or_right (a || b) c e);
    }
