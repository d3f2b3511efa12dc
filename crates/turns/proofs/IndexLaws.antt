-- Laws of the detail at an index: which details of its key stand before it and up to a later one, and the verdict on it. Assumes nothing.
use Prim.Native.Nat.{ℕ, zero, suc, ◌+◌, ◌≤◌, ◌<◌}
use mathlib.Core.Path.{◌≡◌, refl, sym, ap, ◌∙◌}
use mathlib.Core.Bool.{Bool, true, false, cond}
use mathlib.Core.List.{List, [], ◌∷◌, ◌++◌, append-nil}
use mathlib.Core.Option.{Option}
use native.Mathlib.Nat.{not-suc-le-zero, le_of_suc-le-suc}
use native.Mathlib.Omega.{arith}
use lib.ListN.{length, take, drop, get_or, length-drop}
use lib.Seq.{length-take-le, take-suc, take-add, get_or-take, get_or-drop}
use Rattle.text.proofs.SameLaws.{eq_same, same_eq}
use Rattle.text.proofs.WidthLaws.{All}
use Rattle.layout.specs.Record.{record_key}
use Rattle.casemaster.specs.Rows.{row_with}
use Rattle.casemaster.proofs.RowsLaws.{IsWide}
use Rattle.onecase.specs.Verdict.{Judgement, judgement}
use Rattle.turns.specs.Turns.{after_detail, verdict_on, final_rows, verdicts_on}
use Rattle.turns.specs.Under.{is_under, details_under, run_row}
use Rattle.turns.specs.Settings.{Settings, setting_under}
use Rattle.turns.proofs.UnderLaws.{IsRecord, found_final}
use Rattle.turns.proofs.AppendLaws.{under_append}

-- the key of the detail at an index
abbrev pub key_at : List (List ℕ) → ℕ → List ℕ
key_at details i = record_key (get_or details i [])

-- ---- the details of a key in a part of the batch

module _ (key : List ℕ) where
  -- a detail of the key alone
  pub under_one : (x : List ℕ) → record_key x ≡ key → details_under key (x ∷ []) ≡ x ∷ []
  unfolding details_under
  under_one x e = rw (eq_same (record_key x) key e)

  -- none of them has the key
  pub under_none : (xs : List (List ℕ)) → ((i : ℕ) → i < length xs → key_at xs i ≡ key → ⊥) → details_under key xs ≡ []
  unfolding details_under
  under_none [] h = refl
  under_none (x ∷ xs) h = go (is_under key x) refl (under_none xs (λ i l. h (suc i) (omega arith)))
    where
      go : (t : Bool) → is_under key x ≡ t → details_under key xs ≡ []
          → cond t (x ∷ details_under key xs) (details_under key xs) ≡ []
      go true t ih = absurd (h 0 (omega arith) (same_eq (record_key x) key t))
      go false t ih = ih

  module _ (details : List (List ℕ)) where
    -- none before an index
    pub under_before : (i : ℕ) → i ≤ length details → ((j : ℕ) → j < i → key_at details j ≡ key → ⊥) → details_under key (take i details) ≡ []
    under_before i l h =
        under_none (take i details)
        (λ j m e. let n : j < i = omega (arith, length-take-le i details l) in h j n (sym (ap record_key (get_or-take i details j [] n)) ∙ e))

    -- up to a later index, where the detail at i has the key and none between does
    pub under_up_to : (i m : ℕ) → suc i + m ≤ length details → key_at details i ≡ key
        → ((j : ℕ) → i < j → j < suc i + m → key_at details j ≡ key → ⊥)
        → details_under key (take (suc i + m) details) ≡ details_under key (take i details) ++ (get_or details i [] ∷ [])
    under_up_to i m l k h =
        let part : List (List ℕ) = take m (drop (suc i) details) in
        let w : length part ≡ m = length-take-le m (drop (suc i) details) (omega (arith, length-drop (suc i) details)) in
        let between : details_under key part ≡ [] =
        under_none part
        (λ j b e.
        let n : j < m = omega arith in
        let g : get_or part j [] ≡ get_or details (suc i + j) [] =
        get_or-take m (drop (suc i) details) j [] n ∙ get_or-drop (suc i) details j [] in
        h (suc i + j) (omega arith) (omega arith) (sym (ap record_key g) ∙ e)) in
        ap (details_under key) (take-add (suc i) m details)
        ∙ under_append key (take (suc i) details) part
        ∙ ap (λ (s : List (List ℕ)). details_under key (take (suc i) details) ++ s) between
        ∙ append-nil (details_under key (take (suc i) details))
        ∙ ap (details_under key) (take-suc details i [] (omega arith))
        ∙ under_append key (take i details) (get_or details i [] ∷ [])
        ∙ ap (λ (s : List (List ℕ)). details_under key (take i details) ++ s) (under_one (get_or details i []) k)

-- ---- the verdict on the detail at an index

all_take : (P : List ℕ → Type 0) (i : ℕ) (xs : List (List ℕ)) → All P xs → All P (take i xs)
all_take P zero xs a = tt
all_take P (suc i) [] a = tt
all_take P (suc i) (x ∷ xs) a = (a.0, all_take P i xs a.1)

module _ (settings : Settings) where
  -- it is given over the rows that the details before it leave
  pub verdict_at_lem : (rows details : List (List ℕ)) (i : ℕ) (j0 : Judgement) → i < length details
      → get_or (verdicts_on settings rows details) i j0
      ≡ verdict_on settings (final_rows settings rows (take i details)) (get_or details i [])
  unfolding verdicts_on final_rows
  verdict_at_lem rows [] i j0 h = absurd (not-suc-le-zero h)
  verdict_at_lem rows (d ∷ details) zero j0 h = refl
  verdict_at_lem rows (d ∷ details) (suc i) j0 h = verdict_at_lem (after_detail settings rows d) details i j0 (le_of_suc-le-suc h)

  -- so it is the machine's, over the details of the key before it
  pub verdict_under : (rows details : List (List ℕ)) (i : ℕ) (j0 : Judgement) → i < length details → All IsRecord details → All IsWide rows
      → get_or (verdicts_on settings rows details) i j0
      ≡ judgement (setting_under settings (key_at details i))
      (run_row (setting_under settings (key_at details i)) (row_with (key_at details i) rows) (details_under (key_at details i) (take i details)))
      (get_or details i [])
  unfolding verdict_on
  verdict_under rows details i j0 h a w =
      verdict_at_lem rows details i j0 h
      ∙ ap (λ (row : Option (List ℕ)). judgement (setting_under settings (key_at details i)) row (get_or details i []))
      (found_final settings (key_at details i) rows (take i details) (all_take IsRecord i details a) w)
