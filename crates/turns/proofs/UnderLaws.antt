-- Laws of a key's details: the row that a batch leaves under a key, and its verdicts under it, are those of the machine's run; only keys of
-- twelve bytes have details; and how many verdicts and rows there are at the end. Assumes nothing.
use Prim.Native.Nat.{ℕ, suc, ◌+◌, ◌≤◌}
use mathlib.Core.Path.{◌≡◌, refl, ap, ◌∙◌, subst}
use mathlib.Core.Logic.{◌⊎◌, inl, inr}
use mathlib.Core.Bool.{Bool, true, false, cond}
use mathlib.Core.List.{List, [], ◌∷◌}
use native.Mathlib.Omega.{arith}
use lib.Dec.{lit≤}
use lib.ListN.{length, length-append}
use Rattle.layout.specs.Locals.{is_local_list}
use Rattle.casemaster.specs.Master.{are_sound_rows}
use Rattle.casemaster.specs.Rows.{row_with}
use Rattle.text.proofs.FieldsLaws.{length-columns}
use Rattle.text.proofs.SameLaws.{same_eq}
use Rattle.layout.specs.Record.{record_key}
use Rattle.onecase.specs.Verdict.{Judgement, judgement}
use Rattle.onecase.specs.Machine.{next}
use Rattle.turns.specs.Turns.{after_detail, verdict_on, final_rows, verdicts_on}
use Rattle.text.proofs.WidthLaws.{All}
use Rattle.turns.proofs.TurnsLaws.{after_here, after_other, after_fit, after_wide, after_sound, room_after}
use Rattle.turns.specs.Under.{is_under, details_under, verdicts_under, run_row, run_verdicts, IsKey}
use Rattle.casemaster.proofs.RowsLaws.{IsWide, Fit}
use Rattle.turns.specs.Adds.{adds_without_row}
use Rattle.turns.specs.Settings.{Settings, setting_under}

-- a record is 245 bytes
abbrev pub IsRecord : List ℕ → Type 0
IsRecord detail = length detail ≡ 245

-- ---- the machine's run

module _ (settings : Settings) where
  pub final_fit : is_local_list settings.list ≡ true → (rows details : List (List ℕ)) → All IsRecord details → Fit rows
      → Fit (final_rows settings rows details)
  unfolding final_rows
  final_fit l rows [] a f = f
  final_fit l rows (d ∷ details) a f = final_fit l (after_detail settings rows d) details a.1 (after_fit settings rows d a.0 l f)

  -- after all details: the row under a key
  pub found_final : (key : List ℕ) (rows details : List (List ℕ)) → All IsRecord details → All IsWide rows
      → row_with key (final_rows settings rows details) ≡ run_row (setting_under settings key) (row_with key rows) (details_under key details)
  unfolding final_rows run_row details_under
  found_final key rows [] a w = refl
  found_final key rows (d ∷ details) a w =
      found_final key (after_detail settings rows d) details a.1 (after_wide settings rows d a.0 w) ∙ go (is_under key d) refl
    where
      go : (t : Bool) → is_under key d ≡ t
          → run_row (setting_under settings key) (row_with key (after_detail settings rows d)) (details_under key details)
          ≡ run_row (setting_under settings key) (row_with key rows) (cond t (d ∷ details_under key details) (details_under key details))
      go true t = rw (← same_eq (record_key d) key t, after_here settings rows d a.0 w)
      go false t = rw (after_other settings rows d a.0 key w t)

  -- the verdicts under a key
  pub under_verdicts : (key : List ℕ) (rows details : List (List ℕ)) → All IsRecord details → All IsWide rows
      → verdicts_under key details (verdicts_on settings rows details)
      ≡ run_verdicts (setting_under settings key) (row_with key rows) (details_under key details)
  unfolding verdicts_on verdict_on run_verdicts details_under verdicts_under
  under_verdicts key rows [] a w = refl
  under_verdicts key rows (d ∷ details) a w =
      go (is_under key d) refl (under_verdicts key (after_detail settings rows d) details a.1 (after_wide settings rows d a.0 w))
    where
      rest : List Judgement
      rest = verdicts_under key details (verdicts_on settings (after_detail settings rows d) details)

      go : (t : Bool) → is_under key d ≡ t
          → rest ≡ run_verdicts (setting_under settings key) (row_with key (after_detail settings rows d)) (details_under key details)
          → cond t (judgement (setting_under settings (record_key d)) (row_with (record_key d) rows) d ∷ rest) rest
          ≡ run_verdicts (setting_under settings key) (row_with key rows) (cond t (d ∷ details_under key details) (details_under key details))
      go true t ih =
          let e : record_key d ≡ key = same_eq (record_key d) key t in
          let h : row_with key (after_detail settings rows d) ≡ next (setting_under settings key) (row_with key rows) d = rw e at (after_here settings rows d a.0 w) in
          let j : judgement (setting_under settings (record_key d)) (row_with (record_key d) rows) d ≡ judgement (setting_under settings key) (row_with key rows) d =
          ap (λ (k : List ℕ). judgement (setting_under settings k) (row_with k rows) d) e in
          rw (ih, h, j)
      go false t ih = ih ∙ rw (after_other settings rows d a.0 key w t)

-- ---- keys that have details

-- a record's key is twelve bytes
pub record_key_lem : (detail : List ℕ) → IsRecord detail → IsKey (record_key detail)
record_key_lem d e =
    record {
      twelve =
          simp length-append
          (rw (
            length-columns 1 2 d (record { low = lit≤ tt; ordered = lit≤ tt; high = omega arith }),
            length-columns 6 14 d (record { low = lit≤ tt; ordered = lit≤ tt; high = omega arith }),
            length-columns 74 74 d (record { low = lit≤ tt; ordered = lit≤ tt; high = omega arith }),
          ));
    }

-- what has details is a key of twelve bytes
pub under_key : (key : List ℕ) (details : List (List ℕ)) → All IsRecord details → (details_under key details ≡ []) ⊎ IsKey key
unfolding details_under
under_key key [] a = inl refl
under_key key (d ∷ details) a = go (is_under key d) refl (under_key key details a.1)
  where
    go : (t : Bool) → is_under key d ≡ t → (details_under key details ≡ []) ⊎ IsKey key
        → (cond t (d ∷ details_under key details) (details_under key details) ≡ []) ⊎ IsKey key
    go true t ih = inr (subst IsKey (same_eq (record_key d) key t) (record_key_lem d a.0))
    go false t ih = ih

-- ---- a verdict for each detail

module _ (settings : Settings) where
  pub length_verdicts : (rows details : List (List ℕ)) → length (verdicts_on settings rows details) ≡ length details
  unfolding verdicts_on
  length_verdicts rows [] = refl
  length_verdicts rows (d ∷ details) = ap suc (length_verdicts (after_detail settings rows d) details)

-- ---- how many rows there are at the end

pub final_few : (settings : Settings) → is_local_list settings.list ≡ true → (rows details : List (List ℕ)) → All IsRecord details
    → All IsWide rows → are_sound_rows rows ≡ true → length (final_rows settings rows details) ≤ length rows + adds_without_row rows details
unfolding final_rows adds_without_row
final_few settings l rows [] a w s = omega arith
final_few settings l rows (d ∷ details) a w s =
    omega (
      arith,
      final_few settings l (after_detail settings rows d) details a.1 (after_wide settings rows d a.0 w) (after_sound settings rows d a.0 l w s),
      room_after settings rows d a.0 w s details,
    )
