-- A key is one of a table's exactly where its number is marked; so the unmarked records of a file are those whose key the table lacks.
-- Assumes nothing.
use Rattle.text.specs.Options.{one_or_none, is_some}
use Rattle.contactrecord.proofs.ContactLaws.{same_soundness}
use mathlib.Core.Path.{◌≡◌, refl, sym, ap, ◌∙◌}
use mathlib.Core.Bool.{Bool, true, false, ◌||◌, cond}
use mathlib.Core.List.{List, [], ◌∷◌, map}
use mathlib.Core.Option.{Option, none, some}
use Prim.Native.Nat.{ℕ, suc, ◌+◌, ◌-◌}
use native.Mathlib.Omega.{arith}
use lib.Dec.{eqb}
use lib.ListN.{length, get_or}
use borrow.Author.Tests.{eq-eqb, ne_eqb}
use Rattle.text.specs.ByteOrder.{order_of, is_equal}
use Rattle.text.specs.Fields.{same_bytes, is_one_of}
use Rattle.text.proofs.ByteOrderLaws.{same_order}
use Rattle.text.proofs.SameLaws.{same_eq}
use Rattle.contactrecord.specs.ChartA3.{contact_key}
use Rattle.contactrecord.specs.Contact.{is_contact_key}
use Rattle.contacttable.specs.Table.{is_table}
use Rattle.contactupdate.specs.Update.{lacking}
use Rattle.contactupdate.specs.KeyNumbers.{key_number, held_in}
use Rattle.contactupdate.specs.Marks.{lacking_in, Flagged}
use Rattle.contactupdate.proofs.KeyNumberLaws.{Stand, below, level, above, keys_stand}
use Rattle.contactupdate.proofs.SpreadLaws.{Risen, risen_table}

-- the same key is the same number
same_place : (rec s : List ℕ) → is_contact_key rec ≡ true → is_contact_key s ≡ true → same_bytes (contact_key rec) (contact_key s) ≡ eqb (key_number s) (key_number rec)
unfolding is_equal
same_place rec s t u = same_order (contact_key rec) (contact_key s) ∙ go (keys_stand rec s t u)
  where
    go : Stand rec s → is_equal (order_of (contact_key rec) (contact_key s)) ≡ eqb (key_number s) (key_number rec)
    go (below k o) = ap is_equal o ∙ sym (ne_eqb (key_number s) (key_number rec) (λ e. omega arith))
    go (level k o) = ap is_equal o ∙ sym (eq-eqb (key_number s) (key_number rec) (sym k))
    go (above k o) = ap is_equal o ∙ sym (ne_eqb (key_number s) (key_number rec) (λ e. omega arith))

has_key : (k : ℕ) (rows : List (List ℕ)) (rec : List ℕ) → Risen k rows → is_contact_key rec ≡ true
    → is_one_of (contact_key rec) (map contact_key rows) ≡ is_some (held_in rows (key_number rec))
unfolding is_one_of held_in
has_key k [] rec h t = refl
has_key k (s ∷ rows) rec h t =
    rw (same_place rec s t h.0, has_key (suc (key_number s)) rows rec h.2 t) (go (eqb (key_number s) (key_number rec)))
  where
    go : (b : Bool) → (b || is_some (held_in rows (key_number rec))) ≡ is_some (cond b (some s) (held_in rows (key_number rec)))
    go true = refl
    go false = refl

no_key : (k : ℕ) (rows : List (List ℕ)) (rec : List ℕ) → Risen k rows → is_contact_key rec ≡ false → is_one_of (contact_key rec) (map contact_key rows) ≡ false
unfolding is_one_of
no_key k [] rec h t = refl
no_key k (s ∷ rows) rec h t = go (same_bytes (contact_key rec) (contact_key s)) refl (no_key (suc (key_number s)) rows rec h.2 t)
  where
    go : (b : Bool) → same_bytes (contact_key rec) (contact_key s) ≡ b → is_one_of (contact_key rec) (map contact_key rows) ≡ false
        → (b || is_one_of (contact_key rec) (map contact_key rows)) ≡ false
    go true e i =
        let q = same_eq (contact_key rec) (contact_key s) e in
        let z = same_soundness rec s q in
        sym (sym t ∙ z ∙ h.0)
    go false e i = i

pub lacking_is : (rows : List (List ℕ)) (held : List ℕ) → is_table rows ≡ true → Flagged rows held → (file : List (List ℕ)) → lacking_in held file ≡ lacking rows file
unfolding lacking_in lacking
lacking_is rows held t f [] = refl
lacking_is rows held t f (rec ∷ file) = rw (lacking_is rows held t f file) (go (is_contact_key rec) refl)
  where
    flip : (o : Option (List ℕ)) → 1 - length (one_or_none o) ≡ cond (is_some o) 0 1
    flip none = refl
    flip (some r) = refl

    go : (b : Bool) → is_contact_key rec ≡ b
        → cond b (1 - get_or held (key_number rec) 0) 1 + lacking rows file ≡ cond (is_one_of (contact_key rec) (map contact_key rows)) 0 1 + lacking rows file
    go true e =
        rw (has_key 0 rows rec (risen_table rows t) e, f.flag (key_number rec))
        (ap (λ (y : ℕ). y + lacking rows file) (flip (held_in rows (key_number rec))))
    go false e = rw (no_key 0 rows rec (risen_table rows t) e)
