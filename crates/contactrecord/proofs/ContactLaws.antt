-- Laws of a record's key: a good record has a sound one, it is the state and the code, and its bytes say whether it is sound; and of IRS and FMS
-- in its fields.
-- Assumes nothing.
use mathlib.Core.Path.{◌≡◌, refl, sym, ap, ◌∙◌}
use mathlib.Core.Bool.{Bool, true, false, not, ◌&&◌, true≢false}
use mathlib.Core.List.{List, ◌++◌}
use Prim.Native.Nat.{ℕ, ◌+◌}
use native.Mathlib.Omega.{arith}
use lib.Dec.{lit<}
use lib.ListN.{length, take, drop, take-append-drop, length-drop}
use lib.Seq.{take-take, take_all, drop-drop}
use borrow.Author.Tests.{not-false}
use Rattle.text.specs.Fields.{columns, are_digits, is_blank}
use Rattle.text.proofs.FieldsLaws.{and_left, and_right}
use Rattle.text.proofs.SplicedLaws.{drop-take}
use Rattle.layout.specs.States.{is_state}
use Rattle.contactrecord.specs.ChartA3.{contact_state, contact_code, contact_key, agency_name, contact_filler}
use Rattle.contactrecord.specs.Contact.{is_contact_key, are_telephones, is_agency_name, irs, fms, names_irs_or_fms, has_irs_or_fms, has_address, is_faulty}
use Rattle.contactrecord.specs.Wording.{contains}
use Rattle.contactrecord.proofs.WordingLaws.{not_contained, contains-part}

pub good_key : (rec : List ℕ) → is_faulty rec ≡ false → is_contact_key rec ≡ true
unfolding is_faulty
good_key rec e =
    and_left (is_contact_key rec)
    (are_telephones rec && (is_agency_name (agency_name rec) && (not (has_irs_or_fms rec) && (has_address rec && is_blank (contact_filler rec)))))
    (not-false _ e)

module _ (rec : List ℕ) (t : is_contact_key rec ≡ true) where
  pub key_state : is_state (contact_state rec) ≡ true
  unfolding is_contact_key
  key_state = and_left (is_state (contact_state rec)) (are_digits 3 (contact_code rec)) t

  pub key_code : are_digits 3 (contact_code rec) ≡ true
  unfolding is_contact_key
  key_code = and_right (is_state (contact_state rec)) (are_digits 3 (contact_code rec)) t

-- ---- the five bytes of a key

module _ (rec : List ℕ) where
  state_bytes : take 2 (contact_key rec) ≡ contact_state rec
  state_bytes = take-take 2 5 rec (omega arith)

  code_bytes : drop 2 (contact_key rec) ≡ contact_code rec
  code_bytes = drop-take 2 3 rec

  pub key_parts : contact_key rec ≡ contact_state rec ++ contact_code rec
  key_parts = sym (take-append-drop 2 (contact_key rec)) ∙ (rw (state_bytes, code_bytes))

  key_tells : is_contact_key rec ≡ (is_state (take 2 (contact_key rec)) && are_digits 3 (drop 2 (contact_key rec)))
  unfolding is_contact_key
  key_tells = rw (state_bytes, code_bytes)

-- one key, one soundness
pub same_soundness : (rec other : List ℕ) → contact_key rec ≡ contact_key other → is_contact_key rec ≡ is_contact_key other
same_soundness rec other e =
    key_tells rec ∙ ap (λ (k : List ℕ). is_state (take 2 k) && are_digits 3 (drop 2 k)) e ∙ sym (key_tells other)

-- ---- IRS or FMS in a field

module _ (rec : List ℕ) (wide : length rec ≡ 220) where
  -- what the searched columns don't contain no part of them does
  part_without : (word : List ℕ) (k n : ℕ) → contains word (columns 27 220 rec) ≡ false → contains word (take n (drop (26 + k) rec)) ≡ false
  part_without word k n f = go (contains word (take n (drop (26 + k) rec))) refl
    where
      all_of : columns 27 220 rec ≡ drop 26 rec
      all_of = take_all 194 (drop 26 rec) (rw (length-drop 26 rec) (omega arith))

      go : (b : Bool) → contains word (take n (drop (26 + k) rec)) ≡ b → contains word (take n (drop (26 + k) rec)) ≡ false
      go false e = e
      go true e =
          let h : contains word (drop 26 rec) ≡ true = contains-part word (drop 26 rec) k n (rw (drop-drop k 26 rec) e) in
          absurd (true≢false (sym h ∙ rw all_of at f))

  -- a field of those columns has neither
  field_without : (k n : ℕ) → contains irs (columns 27 220 rec) ≡ false → contains fms (columns 27 220 rec) ≡ false
      → names_irs_or_fms (take n (drop (26 + k) rec)) ≡ false
  unfolding names_irs_or_fms
  field_without k n i f =
      rw (not_contained irs (take n (drop (26 + k) rec)) (lit< tt) (part_without irs k n i), not_contained fms (take n (drop (26 + k) rec)) (lit< tt) (part_without fms k n f))

  pub none_without : contains irs (columns 27 220 rec) ≡ false → contains fms (columns 27 220 rec) ≡ false → has_irs_or_fms rec ≡ false
  unfolding has_irs_or_fms
  none_without i f =
      rw (field_without 15 35 i f, field_without 50 35 i f, field_without 85 35 i f, field_without 120 35 i f, field_without 155 35 i f)
