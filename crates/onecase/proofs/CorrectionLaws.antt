-- What a C, L, R or M record without an error does to a row, by its type, and what it stores. Assumes nothing.
use Prim.Native.Nat.{ℕ}
use mathlib.Core.Path.{◌≡◌, refl}
use mathlib.Core.List.{List, [], ◌∷◌}
use mathlib.Core.Bool.{Bool, true, false, not, cond, ◌||◌}
use mathlib.Core.Option.{Option, some}
use borrow.Author.Tests.{eqb-true, not-false}
use lib.ListN.{length}
use Rattle.text.specs.Options.{is_none}
use Rattle.text.specs.Characters.{A, C, L, M, R}
use Rattle.text.specs.Fields.{is_blank, same_bytes}
use Rattle.exclusionsets.specs.Exclusions.{exclusions_of}
use Rattle.layout.specs.Locals.{zero_local_code, is_listed}
use Rattle.layout.specs.ChartA1.{local_code, case_id, exclusions}
use Rattle.layout.specs.Record.{is_type, type_of}
use Rattle.casemaster.specs.Row.{is_live}
use Rattle.text.proofs.BoolLaws.{and_second}
use Rattle.text.proofs.SameLaws.{same_self}
use Rattle.judging.specs.Setting.{Setting}
use Rattle.judging.specs.Errors.{error10, error11, error16, is_local_code, is_live_row}
use Rattle.onecase.specs.Verdict.{is_accepted}
use Rattle.onecase.specs.Changes.{exclusion_byte, reidentified, relocated, amended, excluded}
use Rattle.onecase.specs.Machine.{changed, applied, next}
use Rattle.onecase.proofs.JudgementLaws.{NoError}
use Rattle.onecase.proofs.AcceptedLaws.{live_row_lem}

-- ---- the step

pub next-changed : (setting : Setting) (r rec : List ℕ) → is_type A rec ≡ false → is_accepted setting (some r) rec ≡ true
    → next setting (some r) rec ≡ some (changed rec r)
unfolding next applied
next-changed setting r rec a t = rw (t, a)

module _ (rec r : List ℕ) where
  pub changed_c : is_type C rec ≡ true → changed rec r ≡ reidentified rec r
  unfolding changed
  changed_c t = rw (eqb-true (type_of rec) C t)

  pub changed_l : is_type L rec ≡ true → changed rec r ≡ relocated rec r
  unfolding changed
  changed_l t = rw (eqb-true (type_of rec) L t)

  pub changed_m : is_type M rec ≡ true → changed rec r ≡ amended rec r
  unfolding changed
  changed_m t = rw (eqb-true (type_of rec) M t)

  pub changed_r : is_type R rec ≡ true → changed rec r ≡ excluded rec r
  unfolding changed
  changed_r t = rw (eqb-true (type_of rec) R t)

-- ---- the field of a record without an error

module _ {setting : Setting} {row : Option (List ℕ)} {rec : List ℕ} (n : NoError setting row rec) where
  pub id_there : is_type C rec ≡ true → is_blank (case_id rec) ≡ false
  unfolding error11
  id_there t = and_second (is_type C rec) (is_blank (case_id rec)) t n.no11

  pub code_right : is_type L rec ≡ true → is_local_code setting.list rec ≡ true
  unfolding error10
  code_right t = not-false (is_local_code setting.list rec) (and_second (is_type L rec) (not (is_local_code setting.list rec)) t n.no10)

  pub set_named : is_type R rec ≡ true → is_none (exclusions_of (exclusions rec)) ≡ false
  unfolding error16
  set_named t = and_second (is_type A rec || is_type R rec) (is_none (exclusions_of (exclusions rec))) (or_r t) n.no16
    where
      or_r : is_type R rec ≡ true → (is_type A rec || is_type R rec) ≡ true
      or_r t = rw (eqb-true (type_of rec) R t)

module _ {setting : Setting} {r rec : List ℕ} (n : NoError setting (some r) rec) where
  pub row_live : is_type A rec ≡ false → is_live r ≡ true
  unfolding is_live_row
  row_live a = live_row_lem n a

-- ---- what is stored

-- a code that is 000 or listed may be sent
pub code-sent : (list rec : List ℕ) → (same_bytes (local_code rec) zero_local_code || is_listed (local_code rec) list) ≡ true
    → is_local_code list rec ≡ true
unfolding is_local_code
code-sent list rec t = go (is_blank (local_code rec)) (same_bytes (local_code rec) zero_local_code) (is_listed (local_code rec) list) t
  where
    go : (a b c : Bool) → (b || c) ≡ true → (a || b || c) ≡ true
    go true b c t = refl
    go false b c t = t

-- what is stored is 000 or listed
pub code-stored : (list rec : List ℕ) → is_local_code list rec ≡ true
    → (same_bytes (cond (is_blank (local_code rec)) zero_local_code (local_code rec)) zero_local_code
    || is_listed (cond (is_blank (local_code rec)) zero_local_code (local_code rec)) list)
    ≡ true
unfolding is_local_code
code-stored list rec t = go (is_blank (local_code rec)) t
  where
    go : (b : Bool) → (b || same_bytes (local_code rec) zero_local_code || is_listed (local_code rec) list) ≡ true
        → (same_bytes (cond b zero_local_code (local_code rec)) zero_local_code || is_listed (cond b zero_local_code (local_code rec)) list) ≡ true
    go true t = rw (same_self zero_local_code)
    go false t = t

-- the set that a field names
pub set-stored : (rec : List ℕ) (set : ℕ) → exclusions_of (exclusions rec) ≡ some set → exclusion_byte rec ≡ set ∷ []
unfolding exclusion_byte
set-stored rec set e = rw e

pub byte_wide : (rec : List ℕ) → length (exclusion_byte rec) ≡ 1
unfolding exclusion_byte
byte_wide rec = refl
