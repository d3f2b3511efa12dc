-- What the layers above use of a judgement: its codes rise below 64, none is 0, and are errors alone or warnings alone, it is warned where it isn't
-- rejected and has a code, and it has a name exactly with 17, the row's. Each comes from the list of the codes. Assumes nothing.
use Prim.Native.Nat.{ℕ}
use mathlib.Core.Path.{◌≡◌, refl, sym, ap, ◌∙◌}
use mathlib.Core.List.{List, [], ◌∷◌, ◌++◌}
use mathlib.Core.Bool.{Bool, true, false, not, cond, ◌&&◌, ◌||◌, and-true, and-false, or-true, or-false, false≢true, not-not}
use mathlib.Core.Option.{Option, some}
use borrow.Author.Tests.{not-true, not-false}
use lib.Dec.{leb}
use Rattle.text.specs.Options.{is_some}
use Rattle.text.specs.Fields.{every, at_least_one, columns}
use Rattle.layout.specs.Codes.{RisingCodes}
use Rattle.text.proofs.FieldsLaws.{and_left}
use Rattle.judging.specs.Errors.{code, errors, holds17}
use Rattle.judging.specs.Warnings.{warnings}
use Rattle.onecase.specs.Verdict.{Judgement, is_empty, is_accepted, codes, judgement, has_code, is_error, is_warning, is_rejected, is_warned}
use Rattle.onecase.proofs.JudgementLaws.{code_17, name_17, no_name, name_is}
use Rattle.onecase.proofs.StepLaws.{codes_rise}
use Rattle.judging.specs.Setting.{Setting}

-- a test of codes, the first where it holds
every_front : (f : ℕ → Bool) (c : ℕ) (b : Bool) (cs : List ℕ) → every f (code c b ++ cs) ≡ ((f c || not b) && every f cs)
every_front f c true cs = rw (or-false (f c))
every_front f c false cs = rw (or-true (f c))

every_only : (f : ℕ → Bool) (c : ℕ) (b : Bool) → every f (code c b) ≡ (f c || not b)
every_only f c true = rw (and-true (f c), or-false (f c))
every_only f c false = sym (or-true (f c))

any_front : (f : ℕ → Bool) (c : ℕ) (b : Bool) (cs : List ℕ) → at_least_one f (code c b ++ cs) ≡ (f c && b || at_least_one f cs)
any_front f c true cs = rw (and-true (f c))
any_front f c false cs = rw (and-false (f c))

any_only : (f : ℕ → Bool) (c : ℕ) (b : Bool) → at_least_one f (code c b) ≡ (f c && b)
any_only f c true = rw (and-true (f c), or-false (f c))
any_only f c false = sym (and-false (f c))

-- where each passes, any passes unless there is none
any_of_every : (f : ℕ → Bool) (cs : List ℕ) → every f cs ≡ true → at_least_one f cs ≡ not (is_empty cs)
any_of_every f [] t = refl
any_of_every f (c ∷ cs) t = rw (and_left (f c) (every f cs) t)

module _ (setting : Setting) (row : Option (List ℕ)) (rec : List ℕ) where
  errors-errors : every is_error (errors setting row rec) ≡ true
  unfolding errors
  errors-errors = simp (every_front, every_only)

  errors-warnings : at_least_one is_warning (errors setting row rec) ≡ false
  unfolding errors
  errors-warnings = simp (any_front, any_only)

  -- no code is 0
  errors_positive : every (leb 1) (errors setting row rec) ≡ true
  unfolding errors
  errors_positive = simp (every_front, every_only)

  warnings_positive : every (leb 1) (warnings setting.list row rec) ≡ true
  unfolding warnings
  warnings_positive = simp (every_front, every_only)

  all_positive : every (leb 1) (judgement setting row rec).codes ≡ true
  unfolding judgement codes
  all_positive = go (is_accepted setting row rec)
    where
      go : (b : Bool) → every (leb 1) (cond b (warnings setting.list row rec) (errors setting row rec)) ≡ true
      go true = warnings_positive
      go false = errors_positive

  warnings-warnings : every is_warning (warnings setting.list row rec) ≡ true
  unfolding warnings
  warnings-warnings = simp (every_front, every_only)

  warnings-errors : at_least_one is_error (warnings setting.list row rec) ≡ false
  unfolding warnings
  warnings-errors = simp (any_front, any_only)

  pub rejected_is : is_rejected (judgement setting row rec) ≡ not (is_accepted setting row rec)
  unfolding is_rejected judgement codes is_accepted
  rejected_is = go (is_accepted setting row rec) refl
    where
      go : (b : Bool) → is_accepted setting row rec ≡ b
          → at_least_one is_error (cond b (warnings setting.list row rec) (errors setting row rec)) ≡ not b
      go true e = warnings-errors
      go false e = any_of_every is_error (errors setting row rec) errors-errors ∙ ap not e

  warned_is : is_warned (judgement setting row rec)
      ≡ (is_accepted setting row rec && not (is_empty (judgement setting row rec).codes))
  unfolding is_warned judgement codes
  warned_is = go (is_accepted setting row rec)
    where
      go : (b : Bool) → at_least_one is_warning (cond b (warnings setting.list row rec) (errors setting row rec))
          ≡ (b && not (is_empty (cond b (warnings setting.list row rec) (errors setting row rec))))
      go true = any_of_every is_warning (warnings setting.list row rec) warnings-warnings
      go false = errors-warnings

  -- where it isn't rejected, no error holds
  accepted_of : is_rejected (judgement setting row rec) ≡ false → is_accepted setting row rec ≡ true
  accepted_of t = not-false (is_accepted setting row rec) (sym rejected_is ∙ t)

  all_errors : is_rejected (judgement setting row rec) ≡ true → every is_error (judgement setting row rec).codes ≡ true
  unfolding judgement codes
  all_errors t = rw (not-true (is_accepted setting row rec) (sym rejected_is ∙ t)) errors-errors

  all_warnings : is_rejected (judgement setting row rec) ≡ false → every is_warning (judgement setting row rec).codes ≡ true
  unfolding judgement codes
  all_warnings t = rw (accepted_of t) warnings-warnings

  named_is : has_code 17 (judgement setting row rec).codes ≡ is_some (judgement setting row rec).name
  named_is = code_17 setting row rec ∙ go (holds17 setting row rec) refl
    where
      go : (b : Bool) → holds17 setting row rec ≡ b → holds17 setting row rec ≡ is_some (judgement setting row rec).name
      go true e = e ∙ sym (ap is_some (name_17 setting row rec e).2)
      go false e = e ∙ sym (ap is_some (no_name setting row rec e))

-- ---- the promise

pub record Judged (row : Option (List ℕ)) (j : Judgement) : Type 0 where
  pub rises : RisingCodes 0 64 j.codes
  pub positive : every (leb 1) j.codes ≡ true
  pub errors : is_rejected j ≡ true → every is_error j.codes ≡ true
  pub warnings : is_rejected j ≡ false → every is_warning j.codes ≡ true
  pub warned : is_warned j ≡ (not (is_rejected j) && not (is_empty j.codes))
  pub named : has_code 17 j.codes ≡ is_some j.name
  pub name_is : (bytes : List ℕ) → j.name ≡ some bytes → (r : List ℕ) × (row ≡ some r) × (bytes ≡ columns 31 34 r)

pub judged : (setting : Setting) (row : Option (List ℕ)) (rec : List ℕ) → Judged row (judgement setting row rec)
unfolding judgement
judged setting row rec =
    record {
      rises = (codes_rise setting row rec).rises;
      positive = all_positive setting row rec;
      errors = all_errors setting row rec;
      warnings = all_warnings setting row rec;
      warned =
          warned_is setting row rec
          ∙ ap (λ (b : Bool). b && not (is_empty (codes setting row rec)))
          (sym (ap not (rejected_is setting row rec) ∙ not-not (is_accepted setting row rec)));
      named = named_is setting row rec;
      name_is = name_is setting row rec;
    }

-- a rejected judgement has a code
pub rejected_some : (j : Judgement) → is_rejected j ≡ true → j.codes ≡ [] → ⊥
unfolding is_rejected
rejected_some j t e = false≢true (sym (ap (at_least_one is_error) e) ∙ t)
