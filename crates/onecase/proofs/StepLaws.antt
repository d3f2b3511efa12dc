-- The step from the set of a record's errors: its row and its verdict; and a row made from none. Assumes nothing.
use Prim.Native.Nat.{ℕ}
use mathlib.Core.Path.{◌≡◌, refl, sym, ap, ◌∙◌}
use mathlib.Core.Bool.{Bool, true, false, cond, true≢false}
use mathlib.Core.List.{List}
use mathlib.Core.Option.{Option, none}
use borrow.Author.Tests.{ne_eqb}
use lib.Dec.{eqb}
use Rattle.text.specs.Options.{is_some}
use Rattle.text.specs.Characters.{A}
use Rattle.layout.specs.Codes.{number_of_codes}
use Rattle.layout.proofs.CodesLaws.{codes-number}
use Rattle.layout.specs.Record.{is_type}
use Rattle.judging.specs.Errors.{holds17, errors}
use Rattle.judging.specs.Warnings.{warnings}
use Rattle.onecase.specs.Verdict.{is_accepted, codes, judgement, IsRejection}
use Rattle.onecase.specs.Machine.{applied, next, row_of, IsStep}
use Rattle.onecase.specs.declared.case.Case.{Case}
use Rattle.onecase.specs.declared.verdict.Verdict.{Verdict}
use Rattle.onecase.specs.declared.verdict.Verdict.TheVariants.{Accepted}
use Rattle.judging.proofs.CodeSums.{Rises, number_none}
use Rattle.onecase.proofs.JudgementLaws.{accepted_none, errors_accepted, accepted_errors, error_changes_nothing}
use Rattle.judging.specs.Setting.{Setting}
use Rattle.judging.proofs.JudgeLaws.{errors_rise, warnings_rise}

module _ (setting : Setting) (row : Option (List ℕ)) (rec : List ℕ) where
  pub codes_rise : Rises 0 64 (codes setting row rec)
  unfolding codes
  codes_rise = go (is_accepted setting row rec)
    where
      go : (b : Bool) → Rises 0 64 (cond b (warnings setting.list row rec) (errors setting row rec))
      go true = warnings_rise setting row rec
      go false = errors_rise setting row rec

  -- ---- the step

  -- a set of no error: the warnings, and the row that the record leaves
  pub step_accepted : (set warned : ℕ) (c : Case) → set ≡ number_of_codes (errors setting row rec) → set ≡ 0
      → warned ≡ number_of_codes (warnings setting.list row rec)
      → row_of c ≡ applied setting.list row rec
      → IsStep setting row rec (record { case = c; verdict = Accepted warned })
  unfolding next judgement codes
  step_accepted set warned c es z ew er =
      let a : is_accepted setting row rec ≡ true = errors_accepted setting row rec (number_none (errors setting row rec) (sym es ∙ z)) in
      let n : holds17 setting row rec ≡ false = (accepted_none setting row rec a).no17 in
      record {
        row_is = rw a er;
        verdict_is = rw (a, n, ew, codes-number (warnings setting.list row rec) (warnings_rise setting row rec).rises);
        accepted_is = sym a;
      }

  -- a set of errors: nothing changes
  pub step_rejected : (set : ℕ) (named : Bool) (c : Case) (v : Verdict) → set ≡ number_of_codes (errors setting row rec) → (set ≡ 0 → ⊥)
      → named ≡ holds17 setting row rec
      → row_of c ≡ row
      → IsRejection set named row v
      → IsStep setting row rec (record { case = c; verdict = v })
  unfolding judgement codes
  step_rejected set named c v es z en er i =
      let a : is_accepted setting row rec ≡ false = refused (is_accepted setting row rec) refl in
      record {
        row_is = er ∙ sym (error_changes_nothing setting row rec a);
        verdict_is = i.means ∙ rw (a, es, en, codes-number (errors setting row rec) (errors_rise setting row rec).rises);
        accepted_is = i.rejects ∙ sym a;
      }
    where
      refused : (b : Bool) → is_accepted setting row rec ≡ b → is_accepted setting row rec ≡ false
      refused true t = absurd (z (es ∙ ap number_of_codes (accepted_errors setting row rec t)))
      refused false t = t

-- ---- from no row

module _ (setting : Setting) (rec : List ℕ) where
  -- an A makes a row exactly where its set of errors is empty
  pub add_makes : (set : ℕ) → set ≡ number_of_codes (errors setting none rec) → is_type A rec ≡ true
      → eqb set 0 ≡ is_some (next setting none rec)
  unfolding next applied
  add_makes set es t = go (is_accepted setting none rec) refl
    where
      go : (b : Bool) → is_accepted setting none rec ≡ b → eqb set 0 ≡ is_some (next setting none rec)
      go true a = rw (a, t, es, accepted_errors setting none rec a)
      go false a =
          rw a
          (ne_eqb set 0
          (λ z. true≢false (sym (errors_accepted setting none rec (number_none (errors setting none rec) (sym es ∙ z))) ∙ a)))

  -- a record of another type makes none
  pub others_make_none : is_type A rec ≡ false → false ≡ is_some (next setting none rec)
  unfolding next applied
  others_make_none t = go (is_accepted setting none rec) refl
    where
      go : (b : Bool) → is_accepted setting none rec ≡ b → false ≡ is_some (next setting none rec)
      go true a = rw (a, t)
      go false a = rw a
