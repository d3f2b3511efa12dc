-- Where refusal 29 holds no list of C, L, R and M records leads there, not even with errors. Assumes nothing.
use Prim.Native.Nat.{ℕ}
use mathlib.Core.Path.{◌≡◌, refl, sym, ◌∙◌}
use mathlib.Core.List.{List, [], ◌∷◌}
use mathlib.Core.Bool.{Bool, true, false, not, ◌&&◌, ◌||◌, false≢true, and-false}
use mathlib.Core.Option.{some}
use mathlib.Core.Logic.{◌⊎◌, inl, inr}
use borrow.Author.Tests.{eqb-true, not-true}
use lib.Dec.{eqb}
use lib.ListN.{length}
use Rattle.text.specs.Characters.{A, C, L, M, R}
use Rattle.text.specs.Fields.{columns, every, is_blank, is_zero, same_bytes}
use Rattle.text.proofs.FieldsLaws.{and_left, and_right}
use Rattle.text.proofs.SameLaws.{eq_same}
use Rattle.layout.specs.Record.{record_key, is_type, type_of}
use Rattle.casemaster.specs.Row.{is_live}
use Rattle.judging.specs.Setting.{Setting}
use Rattle.onecase.specs.Verdict.{is_accepted}
use Rattle.onecase.specs.Machine.{changed}
use Rattle.onecase.proofs.JudgementLaws.{accepted_none, error_changes_nothing}
use Rattle.turns.specs.Under.{run_row}
use Rattle.exclusionsets.specs.ExclusionText.{is_widened}
use Rattle.caserecords.specs.Differences.{is_other, is_other_case_id, is_other_local_code, is_other_set, is_other_balance, is_other_elsewhere, is_zero_or_listed, set_of, is_barred, refusal29}
use Rattle.leading.specs.Leads.{is_correction}
use Rattle.onecase.proofs.CorrectionLaws.{next-changed, row_live}
use Rattle.leading.proofs.ReachedLaws.{Reached, reached_self, reached_on}

-- ---- a correction

module _ (key rec : List ℕ) (t : is_correction key rec ≡ true) where
  pub correction_wide : length rec ≡ 245
  unfolding is_correction
  correction_wide = eqb-true (length rec) 245 (and_left (eqb (length rec) 245) _ t)

  pub correction_key : same_bytes (record_key rec) key ≡ true
  unfolding is_correction
  correction_key = and_left (same_bytes (record_key rec) key) _ (and_right (eqb (length rec) 245) _ t)

  pub correction_kind : (is_type C rec || is_type L rec || is_type R rec || is_type M rec) ≡ true
  unfolding is_correction
  correction_kind = and_right (same_bytes (record_key rec) key) _ (and_right (eqb (length rec) 245) _ t)

-- one of four types is no other
pub kind_other : (rec : List ℕ) (x : ℕ) → (eqb x C || eqb x L || eqb x R || eqb x M) ≡ false
    → (is_type C rec || is_type L rec || is_type R rec || is_type M rec) ≡ true → is_type x rec ≡ false
kind_other rec x d t = go (is_type x rec) refl
  where
    go : (b : Bool) → is_type x rec ≡ b → is_type x rec ≡ false
    go true e = let f = eqb-true (type_of rec) x e in absurd (false≢true (sym d ∙ (rw f at t)))
    go false e = e

-- ---- a list that leads somewhere, with errors or without; an error changes nothing

module _ (setting : Setting) (key row : List ℕ) where
  pub reached_all : (r : List ℕ) (recs : List (List ℕ)) (end : List ℕ) → Reached setting.list row r → every (is_correction key) recs ≡ true
      → run_row setting (some r) recs ≡ some end → Reached setting.list row end
  unfolding run_row
  reached_all r [] end h k e = let d : r ≡ end = cc in rw (← d) h
  reached_all r (rec ∷ recs) end h k e =
      go (is_accepted setting (some r) rec) refl (λ new o f. reached_all new recs end o (and_right (is_correction key rec) _ k) f)
    where
      go : (b : Bool) → is_accepted setting (some r) rec ≡ b
          → ((new : List ℕ) → Reached setting.list row new → run_row setting (some new) recs ≡ some end → Reached setting.list row end)
          → Reached setting.list row end
      go true a rest =
          let kr = and_left (is_correction key rec) _ k in
          let kind = correction_kind key rec kr in
          let n = next-changed setting r rec (kind_other rec A refl kind) a in
          rest (changed rec r) (reached_on (accepted_none setting (some r) rec a) (correction_wide key rec kr) row r h kind) (rw n at e)
      go false a rest = rest r h (rw (error_changes_nothing setting (some r) rec a) at e)

  -- it leaves the row, or the row is live: the first record without an error found it so
  live_or_same : (recs : List (List ℕ)) (end : List ℕ) → every (is_correction key) recs ≡ true → run_row setting (some row) recs ≡ some end
      → (row ≡ end) ⊎ (is_live row ≡ true)
  unfolding run_row
  live_or_same [] end k e = inl (cc)
  live_or_same (rec ∷ recs) end k e =
      go (is_accepted setting (some row) rec) refl (λ f. live_or_same recs end (and_right (is_correction key rec) _ k) f)
    where
      go : (b : Bool) → is_accepted setting (some row) rec ≡ b → (run_row setting (some row) recs ≡ some end → (row ≡ end) ⊎ (is_live row ≡ true))
          → (row ≡ end) ⊎ (is_live row ≡ true)
      go true a rest =
          inr (row_live (accepted_none setting (some row) rec a) (kind_other rec A refl (correction_kind key rec (and_left (is_correction key rec) _ k))))
      go false a rest = rest (rw (error_changes_nothing setting (some row) rec a) at e)

-- ---- what was reached is not barred

module _ (row wanted : List ℕ) where
  same_other : (a z : ℕ) → columns a z wanted ≡ columns a z row → is_other a z row wanted ≡ false
  same_other a z e = rw (eq_same (columns a z row) (columns a z wanted) (sym e))

  kept_free : (a z : ℕ) (bad : Bool) → (columns a z wanted ≡ columns a z row) ⊎ (not bad ≡ true) → (is_other a z row wanted && bad) ≡ false
  kept_free a z bad (inl e) = rw (same_other a z e)
  kept_free a z bad (inr t) = rw (not-true bad t) (and-false (is_other a z row wanted))

  balance_free : ((columns 66 73 wanted ≡ columns 66 73 row) × (columns 197 198 wanted ≡ columns 197 198 row)) ⊎ (is_zero (columns 197 198 wanted) ≡ true)
      → (is_other_balance row wanted && not (is_zero (columns 197 198 wanted))) ≡ false
  unfolding is_other_balance
  balance_free (inl e) = rw (same_other 66 73 e.0, same_other 197 198 e.1)
  balance_free (inr t) = rw t (and-false (is_other_balance row wanted))

-- a test denied twice
not_twice : (f g : List ℕ) (b : Bool) → (f ≡ g) ⊎ (b ≡ true) → (f ≡ g) ⊎ (not (not b) ≡ true)
not_twice f g b (inl e) = inl e
not_twice f g b (inr t) = inr (rw t)

reached_free : (list row wanted : List ℕ) → Reached list row wanted → is_live row ≡ true → is_barred row wanted list ≡ false
unfolding is_barred is_other_elsewhere is_other_case_id is_other_local_code is_other_set
reached_free list row wanted h v =
    let c = kept_free row wanted 16 30 (is_blank (columns 16 30 wanted)) h.id in
    let l = kept_free row wanted 13 15 (not (is_zero_or_listed list (columns 13 15 wanted)))
    (not_twice (columns 13 15 wanted) (columns 13 15 row) (is_zero_or_listed list (columns 13 15 wanted)) h.local) in
    let s = kept_free row wanted 195 195 (not (is_widened (set_of wanted)))
    (not_twice (columns 195 195 wanted) (columns 195 195 row) (is_widened (set_of wanted)) h.set) in
    let b = balance_free row wanted h.balance in
    rw (v, same_other row wanted 1 12 h.key, same_other row wanted 31 65 h.names, same_other row wanted 74 194 h.middle, same_other row wanted 199 200 h.filler, c, l, s, b)

free_not : (list row wanted : List ℕ) → is_barred row wanted list ≡ false → refusal29 row wanted list ≡ false
unfolding refusal29
free_not list row wanted f = rw f (and-false (not (same_bytes row wanted)))

same_not : (list row wanted : List ℕ) → row ≡ wanted → refusal29 row wanted list ≡ false
unfolding refusal29
same_not list row wanted e = rw (eq_same row wanted e)

-- whatever the control record's state, the year and the names given
pub ends_not : (setting : Setting) (key row wanted : List ℕ) (recs : List (List ℕ)) → length row ≡ 200 → every (is_correction key) recs ≡ true
    → run_row setting (some row) recs ≡ some wanted → refusal29 row wanted setting.list ≡ false
ends_not setting key row wanted recs w k e =
    go (reached_all setting key row row recs wanted (reached_self setting.list row w) k e) (live_or_same setting key row recs wanted k e)
  where
    go : Reached setting.list row wanted → (row ≡ wanted) ⊎ (is_live row ≡ true) → refusal29 row wanted setting.list ≡ false
    go h (inl e) = same_not setting.list row wanted e
    go h (inr v) = free_not setting.list row wanted (reached_free setting.list row wanted h v)
