-- Laws of the one-case machine's run: one detail more, and over the details of a key, what a row or none keeps. Assumes nothing.
use Prim.Native.Nat.{ℕ}
use mathlib.Core.Path.{◌≡◌, refl, ap, ◌∙◌}
use mathlib.Core.Bool.{Bool, true, false, not, cond, ◌||◌}
use mathlib.Core.List.{List, [], ◌∷◌, ◌++◌}
use mathlib.Core.Option.{Option, none, some}
use Rattle.text.specs.Options.{is_none, is_some}
use Rattle.text.proofs.SameLaws.{same_eq}
use Rattle.text.proofs.WidthLaws.{All}
use Rattle.layout.specs.Locals.{is_local_list}
use Rattle.layout.specs.Key.{is_own_key}
use Rattle.layout.specs.Record.{record_key}
use Rattle.casemaster.proofs.RowsLaws.{Each}
use Rattle.casemaster.proofs.KeyRowLaws.{KeyRow, SoundKeyRow}
use Rattle.judging.specs.Setting.{Setting}
use Rattle.onecase.specs.Machine.{next}
use Rattle.onecase.proofs.MachineLaws.{row_stays, next_keyed, next_sound}
use Rattle.onecase.proofs.JudgementLaws.{kept_alone}
use Rattle.turns.specs.Under.{is_under, details_under, run_row}
use Rattle.turns.proofs.UnderLaws.{IsRecord}

-- ---- one detail more

pub held_is : (row : Option (List ℕ)) → is_some row ≡ not (is_none row)
held_is none = refl
held_is (some row) = refl

module _ (setting : Setting) where
  -- one detail more
  pub run_more : (row : Option (List ℕ)) (xs : List (List ℕ)) (x : List ℕ)
      → run_row setting row (xs ++ (x ∷ [])) ≡ next setting (run_row setting row xs) x
  unfolding run_row
  run_more row [] x = refl
  run_more row (y ∷ xs) x = run_more (next setting row y) xs x

  -- a row is there after one detail more: it was there, or the detail makes it
  pub held_more : (row : Option (List ℕ)) (x : List ℕ)
      → not (is_none (next setting row x)) ≡ (not (is_none row) || not (is_none (next setting none x)))
  held_more none x = refl
  held_more (some row) x = let s = row_stays setting row x in rw s.1

-- ---- under a key

module _ (setting : Setting) (key : List ℕ) where
  -- what each step under the key keeps, the run keeps
  run_each : (P : List ℕ → Type 0)
      → ((o : Option (List ℕ)) (d : List ℕ) → IsRecord d → record_key d ≡ key → Each P o → Each P (next setting o d))
      → (o : Option (List ℕ)) (details : List (List ℕ)) → All IsRecord details → Each P o
      → Each P (run_row setting o (details_under key details))
  unfolding run_row details_under
  run_each P step o [] a h = h
  run_each P step o (d ∷ details) a h = go (λ s k. run_each P step s details a.1 k) (is_under key d) refl
    where
      go : ((s : Option (List ℕ)) → Each P s → Each P (run_row setting s (details_under key details))) → (t : Bool) → is_under key d ≡ t
          → Each P (run_row setting o (cond t (d ∷ details_under key details) (details_under key details)))
      go ih true t = ih (next setting o d) (step o d a.0 (same_eq (record_key d) key t) h)
      go ih false t = ih o h

  -- width and key
  pub run_keyed : (o : Option (List ℕ)) (details : List (List ℕ)) → All IsRecord details → Each (KeyRow key) o
      → Each (KeyRow key) (run_row setting o (details_under key details))
  run_keyed = run_each (KeyRow key) (λ o d e k h. next_keyed setting o d e key k h)

  -- and soundness
  pub run_sound : is_local_list setting.list ≡ true → (o : Option (List ℕ)) (details : List (List ℕ)) → All IsRecord details → Each (SoundKeyRow key) o
      → Each (SoundKeyRow key) (run_row setting o (details_under key details))
  run_sound l = run_each (SoundKeyRow key) (λ o d e k h. next_sound setting o d e key k l h)

  pub run_none : (o : Option (List ℕ)) (ds : List (List ℕ)) → ds ≡ [] → run_row setting o ds ≡ o
  unfolding run_row
  run_none o ds e = rw e

  -- a row stays
  pub run_stays : (details : List (List ℕ)) (row : List ℕ) → (new : List ℕ) × (run_row setting (some row) details ≡ some new)
  unfolding run_row
  run_stays [] row = (row, refl)
  run_stays (d ∷ details) row =
      let s = row_stays setting row d in
      let t = run_stays details s.0 in
      (t.0, ap (λ (o : Option (List ℕ)). run_row setting o details) s.1 ∙ t.1)

  -- under a key that is not an own one nothing changes
  pub run_other : is_own_key setting.state key ≡ false → (o : Option (List ℕ)) (details : List (List ℕ)) → All IsRecord details
      → run_row setting o (details_under key details) ≡ o
  unfolding run_row details_under
  run_other f o [] a = refl
  run_other f o (d ∷ details) a = go (is_under key d) refl (run_other f o details a.1)
    where
      go : (t : Bool) → is_under key d ≡ t → run_row setting o (details_under key details) ≡ o
          → run_row setting o (cond t (d ∷ details_under key details) (details_under key details)) ≡ o
      go true t ih =
          let k : record_key d ≡ key = same_eq (record_key d) key t in
          ap (λ (s : Option (List ℕ)). run_row setting s (details_under key details))
          (kept_alone setting d a.0 (ap (is_own_key setting.state) k ∙ f) o)
          ∙ ih
      go false t ih = ih
