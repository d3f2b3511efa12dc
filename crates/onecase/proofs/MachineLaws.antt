-- Laws of the one-case machine's step, by which the layers above use it without opening it: a row stays, only type A makes one, and
-- a row that is 200 bytes wide, has the record's key and is sound stays so. Assumes nothing.
use Prim.Native.Nat.{ℕ}
use mathlib.Core.Path.{◌≡◌, refl, ◌∙◌}
use mathlib.Core.List.{List}
use mathlib.Core.Bool.{Bool, true, false, cond}
use mathlib.Core.Option.{Option, none, some}
use lib.ListN.{length}
use Rattle.text.specs.Characters.{A, B, C, D, L, M, R, S, letter_t}
use Rattle.text.specs.Fields.{columns}
use Rattle.layout.specs.Locals.{is_local_list}
use Rattle.casemaster.proofs.KeyRowLaws.{KeyRow, SoundKeyRow}
use Rattle.casemaster.specs.Row.{is_live, is_sound_row}
use Rattle.layout.specs.Record.{record_key, is_type}
use Rattle.judging.specs.Errors.{is_live_row}
use Rattle.onecase.specs.Verdict.{is_accepted}
use Rattle.onecase.specs.Changes.{fresh_row, recertified, renamed, reidentified, deleted, relocated, amended, excluded, paid, transferred, readdressed}
use Rattle.onecase.specs.Machine.{changed, added, applied, next}
use Rattle.text.proofs.BoolLaws.{either}
use Rattle.onecase.proofs.JudgementLaws.{NoError, accepted_none}
use Rattle.onecase.proofs.ChangesLaws
use Rattle.onecase.proofs.ChangesLaws.{Kept}
use Rattle.casemaster.proofs.SoundLaws.{SoundAt, columns_of, sound_columns}
use Rattle.onecase.proofs.SoundChangesLaws
use Rattle.onecase.proofs.AcceptedLaws.{live_row_lem}
use Rattle.casemaster.proofs.RowsLaws.{Each, each_some, IsWide}
use Rattle.judging.specs.Setting.{Setting}

-- ---- a row stays, and only type A makes one

pub row_stays : (setting : Setting) (r rec : List ℕ)
    → (new : List ℕ) × (next setting (some r) rec ≡ some new)
unfolding next applied
row_stays setting r rec = go (is_accepted setting (some r) rec) (is_type A rec)
  where
    go : (b a : Bool) → (new : List ℕ) × (cond b (cond a (some (added setting.list rec (some r))) (some (changed rec r))) (some r) ≡ some new)
    go true true = (added setting.list rec (some r), refl)
    go true false = (changed rec r, refl)
    go false a = (r, refl)

pub only_add_makes : (setting : Setting) (rec new : List ℕ)
    → next setting none rec ≡ some new → is_type A rec ≡ true
unfolding next applied
only_add_makes setting rec new e = go (is_accepted setting none rec) (is_type A rec) refl e
  where
    go : (b a : Bool) → is_type A rec ≡ a → cond b (cond a (some (added setting.list rec none)) none) none ≡ some new → is_type A rec ≡ true
    go true true t e = t
    go true false t e = cc
    go false true t e = t
    go false false t e = cc

-- ---- what holds of each change holds of the step

-- of what a record of any type but A does to a row
record EachChange (P : List ℕ → Type 0) (rec row : List ℕ) : Type 0 where
  of_renamed : is_type B rec ≡ true → P (renamed rec row)
  of_reidentified : P (reidentified rec row)
  of_deleted : P (deleted row)
  of_relocated : is_type L rec ≡ true → P (relocated rec row)
  of_amended : is_type M rec ≡ true → P (amended rec row)
  of_excluded : P (excluded rec row)
  of_paid : is_type S rec ≡ true → P (paid rec row)
  of_transferred : P (transferred rec row)
  of_readdressed : P (readdressed rec row)

each_change : (P : List ℕ → Type 0) (rec row : List ℕ) → EachChange P rec row → P (changed rec row)
unfolding changed
each_change P rec row h =
    either P (is_type B rec) (renamed rec row) _ h.of_renamed
    (either P (is_type C rec) (reidentified rec row) _ (λ t. h.of_reidentified)
    (either P (is_type D rec) (deleted row) _ (λ t. h.of_deleted)
    (either P (is_type L rec) (relocated rec row) _ h.of_relocated
    (either P (is_type M rec) (amended rec row) _ h.of_amended
    (either P (is_type R rec) (excluded rec row) _ (λ t. h.of_excluded)
    (either P (is_type S rec) (paid rec row) _ h.of_paid
    (either P (is_type letter_t rec) (transferred rec row) (readdressed rec row) (λ t. h.of_transferred)
    h.of_readdressed)))))))

-- with no error: a fresh row, a live row certified again, or a live row changed
record EachStep (P : List ℕ → Type 0) (setting : Setting) (row : Option (List ℕ)) (rec : List ℕ) : Type 0 where
  of_fresh : NoError setting row rec → is_type A rec ≡ true → P (fresh_row setting.list rec)
  of_recertified : (r : List ℕ) → row ≡ some r → NoError setting row rec → is_type A rec ≡ true → is_live r ≡ true
      → P (recertified setting.list rec r)
  of_changed : (r : List ℕ) → row ≡ some r → NoError setting row rec → is_live r ≡ true → P (changed rec r)

each_step : (P : List ℕ → Type 0) (setting : Setting) (row : Option (List ℕ)) (rec : List ℕ)
    → Each P row → EachStep P setting row rec → Each P (next setting row rec)
unfolding next applied added is_live_row
each_step P setting none rec h s = go (is_accepted setting none rec) (is_type A rec) refl refl
  where
    go : (b a : Bool) → is_accepted setting none rec ≡ b → is_type A rec ≡ a
        → Each P (cond b (cond a (some (added setting.list rec none)) none) none)
    go true true e t = s.of_fresh (accepted_none setting none rec e) t
    go true false e t = tt
    go false a e t = tt
each_step P setting (some r) rec h s = go (is_accepted setting (some r) rec) (is_type A rec) refl refl
  where
    go : (b a : Bool) → is_accepted setting (some r) rec ≡ b → is_type A rec ≡ a
        → Each P (cond b (cond a (some (added setting.list rec (some r))) (some (changed rec r))) (some r))
    go true true e t =
        let n = accepted_none setting (some r) rec e in
        either P (is_live r) (recertified setting.list rec r) (fresh_row setting.list rec) (λ v. s.of_recertified r refl n t v) (s.of_fresh n t)
    go true false e t =
        let n = accepted_none setting (some r) rec e in
        s.of_changed r refl n (live_row_lem n t)
    go false a e t = h

-- ---- width, key and soundness

module _ (rec row : List ℕ) (e : length rec ≡ 245) (w : length row ≡ 200) where
  changed_kept : Kept row (changed rec row)
  changed_kept =
      each_change (Kept row) rec row
      record {
        of_renamed = λ t. ChangesLaws.renamed_kept rec e row w;
        of_reidentified = ChangesLaws.reidentified_kept rec e row w;
        of_deleted = ChangesLaws.deleted_kept row w;
        of_relocated = λ t. ChangesLaws.relocated_kept rec e row w;
        of_amended = λ t. ChangesLaws.amended_kept rec e row w;
        of_excluded = ChangesLaws.excluded_kept rec e row w;
        of_paid = λ t. ChangesLaws.paid_kept rec e row w;
        of_transferred = ChangesLaws.transferred_kept rec e row w;
        of_readdressed = ChangesLaws.readdressed_kept rec e row w;
      }

  changed_sound : {setting : Setting} {held : Option (List ℕ)} → NoError setting held rec
      → is_local_list setting.list ≡ true → is_live row ≡ true → is_sound_row row ≡ true → is_sound_row (changed rec row) ≡ true
  changed_sound n l v t =
      let s : SoundAt (columns_of row) = sound_columns row t in
      each_change (λ (r : List ℕ). is_sound_row r ≡ true) rec row
      record {
        of_renamed = SoundChangesLaws.renamed_sound n e row w s;
        of_reidentified = SoundChangesLaws.reidentified_sound rec e row w s;
        of_deleted = SoundChangesLaws.deleted_sound row w s;
        of_relocated = SoundChangesLaws.relocated_sound n e row w s l;
        of_amended = SoundChangesLaws.amended_sound n e row w s v;
        of_excluded = SoundChangesLaws.excluded_sound rec e row w s;
        of_paid = SoundChangesLaws.paid_sound n e row w s;
        of_transferred = SoundChangesLaws.transferred_sound rec e row w s;
        of_readdressed = SoundChangesLaws.readdressed_sound rec e row w s;
      }

module _ (setting : Setting) (row : Option (List ℕ)) (rec : List ℕ) (e : length rec ≡ 245) where
  pub next_wide : Each IsWide row → Each IsWide (next setting row rec)
  next_wide h =
      each_step IsWide setting row rec h
      record {
        of_fresh = λ n a. ChangesLaws.fresh_wide rec e setting.list;
        of_recertified = λ r g n a v. (ChangesLaws.recertified_kept rec e r (each_some IsWide row r h g) setting.list).wide;
        of_changed = λ r g n v. (changed_kept rec r e (each_some IsWide row r h g)).wide;
      }

  -- a row of the record's key stays one
  module _ (key : List ℕ) (i : record_key rec ≡ key) where
    keyed : (r new : List ℕ) → KeyRow key r → Kept r new → KeyRow key new
    keyed r new h k = record { wide = k.wide; key_is = k.key ∙ h.key_is }

    fresh : KeyRow key (fresh_row setting.list rec)
    fresh = record { wide = ChangesLaws.fresh_wide rec e setting.list; key_is = ChangesLaws.fresh_key rec e setting.list ∙ i }

    pub next_keyed : Each (KeyRow key) row → Each (KeyRow key) (next setting row rec)
    next_keyed h =
        each_step (KeyRow key) setting row rec h
        record {
          of_fresh = λ n a. fresh;
          of_recertified = λ r g n a v.
              let k = each_some (KeyRow key) row r h g in
              keyed r (recertified setting.list rec r) k (ChangesLaws.recertified_kept rec e r k.wide setting.list);
          of_changed = λ r g n v.
              let k = each_some (KeyRow key) row r h g in
              keyed r (changed rec r) k (changed_kept rec r e k.wide);
        }

    -- and sound
    pub next_sound : is_local_list setting.list ≡ true → Each (SoundKeyRow key) row → Each (SoundKeyRow key) (next setting row rec)
    next_sound l h =
        each_step (SoundKeyRow key) setting row rec h
        record {
          of_fresh = λ n a. record { keyed = fresh; sound = SoundChangesLaws.fresh_sound n e l a };
          of_recertified = λ r g n a v.
              let s = each_some (SoundKeyRow key) row r h g in
              let w = s.keyed.wide in
              record {
                keyed = keyed r (recertified setting.list rec r) s.keyed (ChangesLaws.recertified_kept rec e r w setting.list);
                sound = SoundChangesLaws.recertified_sound n e r w (sound_columns r s.sound) v l a;
              };
          of_changed = λ r g n v.
              let s = each_some (SoundKeyRow key) row r h g in
              let w = s.keyed.wide in
              record {
                keyed = keyed r (changed rec r) s.keyed (changed_kept rec r e w);
                sound = changed_sound rec r e w n l v s.sound;
              };
        }

-- the same of the two rows named
module _ (setting : Setting) (r rec new : List ℕ) (e : length rec ≡ 245) (g : next setting (some r) rec ≡ some new)
    (w : length r ≡ 200) where
  pub width_kept : length new ≡ 200
  width_kept = each_some IsWide (next setting (some r) rec) new (next_wide setting (some r) rec e w) g

  pub key_kept : columns 1 12 r ≡ record_key rec → columns 1 12 new ≡ record_key rec
  key_kept k =
      (each_some (KeyRow (record_key rec)) (next setting (some r) rec) new
      (next_keyed setting (some r) rec e (record_key rec) refl (record { wide = w; key_is = k })) g).key_is

  pub sound_kept : is_local_list setting.list ≡ true → columns 1 12 r ≡ record_key rec → is_sound_row r ≡ true → is_sound_row new ≡ true
  sound_kept l k s =
      (each_some (SoundKeyRow (record_key rec)) (next setting (some r) rec) new
      (next_sound setting (some r) rec e (record_key rec) refl l (record { keyed = record { wide = w; key_is = k }; sound = s })) g).sound

module _ (setting : Setting) (rec new : List ℕ) (e : length rec ≡ 245) (g : next setting none rec ≡ some new) where
  pub width_made : length new ≡ 200
  width_made = each_some IsWide (next setting none rec) new (next_wide setting none rec e tt) g

  pub key_made : columns 1 12 new ≡ record_key rec
  key_made = (each_some (KeyRow (record_key rec)) (next setting none rec) new (next_keyed setting none rec e (record_key rec) refl tt) g).key_is

  pub sound_made : is_local_list setting.list ≡ true → is_sound_row new ≡ true
  sound_made l =
      (each_some (SoundKeyRow (record_key rec)) (next setting none rec) new (next_sound setting none rec e (record_key rec) refl l tt) g).sound
