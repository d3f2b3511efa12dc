-- Laws of a record's errors and of the judgement on it, by which the layers above use them. Assumes nothing.
use Prim.Native.Nat.{ℕ}
use mathlib.Core.Path.{◌≡◌, refl, sym, ap, ◌∙◌}
use mathlib.Core.List.{List, [], ◌∷◌, ◌++◌}
use mathlib.Core.Bool.{Bool, true, false, not, cond, ◌&&◌, ◌||◌, and-false, and-true, or-false, false≢true}
use mathlib.Core.Option.{Option, none, some}
use native.Mathlib.Omega.{arith}
use lib.Dec.{eqb, lit≤}
use lib.ListN.{length}
use Rattle.text.specs.Characters.{A, B}
use Rattle.text.specs.Fields.{columns}
use Rattle.casemaster.specs.Row.{is_live}
use Rattle.text.proofs.FieldsLaws.{and_left, and_right, length-columns}
use borrow.Author.Tests.{not-true, not-false}
use Rattle.layout.specs.Key.{is_own_key}
use Rattle.layout.specs.Record.{record_key, is_type}
use Rattle.judging.proofs.FrontLaws.{add-front}
use Rattle.judging.proofs.OwnKeyLaws.{other_wrong}
use Rattle.judging.specs.Errors.{error01, error02, error03, error04, error05, error06, error07, error08, error09, error10, error11, error12, error13, error14, error15, error16, error17, error18, is_wrong_key, is_live_row, is_other_name, is_given, holds09, holds17, code, errors}
use Rattle.judging.specs.Warnings.{warning52, is_renamed, warnings}
use Rattle.onecase.specs.Verdict.{is_empty, is_accepted, codes, stored_name, judgement, has_code}
use Rattle.onecase.specs.Machine.{next}
use Rattle.text.proofs.BoolLaws.{or_left, and_second}
use Rattle.judging.specs.Setting.{Setting, setting_of}

-- ---- no error

-- a condition for each code; a record is rejected exactly where one of them fails
pub record NoError (setting : Setting) (row : Option (List ℕ)) (rec : List ℕ) : Type 0 where
  pub no01 : error01 setting.state rec ≡ false
  pub no02 : error02 rec ≡ false
  pub no03 : error03 rec ≡ false
  pub no04 : error04 rec ≡ false
  pub no05 : error05 rec ≡ false
  pub no06 : error06 rec ≡ false
  pub no07 : error07 rec ≡ false
  pub no08 : error08 rec ≡ false
  pub no09 : holds09 setting row rec ≡ false
  pub no10 : error10 setting.list rec ≡ false
  pub no11 : error11 rec ≡ false
  pub no12 : error12 rec ≡ false
  pub no13 : error13 setting.year rec ≡ false
  pub no14 : error14 rec ≡ false
  pub no15 : error15 rec ≡ false
  pub no16 : error16 rec ≡ false
  pub no17 : holds17 setting row rec ≡ false
  pub no18 : error18 rec ≡ false

empty_none : (cs : List ℕ) → is_empty cs ≡ true → cs ≡ []
empty_none [] t = refl
empty_none (c ∷ cs) t = cc

-- no code stands in front, and none behind
front_none : (c : ℕ) (b : Bool) (cs : List ℕ) → code c b ++ cs ≡ [] → b ≡ false
front_none c true cs e = cc
front_none c false cs e = refl

behind_none : (c : ℕ) (b : Bool) (cs : List ℕ) → code c b ++ cs ≡ [] → cs ≡ []
behind_none c true cs e = cc
behind_none c false cs e = e

only_none : (c : ℕ) (b : Bool) → code c b ≡ [] → b ≡ false
only_none c true e = cc
only_none c false e = refl

module _ (setting : Setting) (row : Option (List ℕ)) (rec : List ℕ) where
  pub accepted_errors : is_accepted setting row rec ≡ true → errors setting row rec ≡ []
  unfolding is_accepted
  accepted_errors t = empty_none (errors setting row rec) t

  pub errors_accepted : errors setting row rec ≡ [] → is_accepted setting row rec ≡ true
  unfolding is_accepted
  errors_accepted e = rw e

  errors_none : errors setting row rec ≡ [] → NoError setting row rec
  unfolding errors
  errors_none e1 =
      let e2 = behind_none 1 (error01 setting.state rec) _ e1 in
      let e3 = behind_none 2 (error02 rec) _ e2 in
      let e4 = behind_none 3 (error03 rec) _ e3 in
      let e5 = behind_none 4 (error04 rec) _ e4 in
      let e6 = behind_none 5 (error05 rec) _ e5 in
      let e7 = behind_none 6 (not (error03 rec) && error06 rec) _ e6 in
      let e8 = behind_none 7 (not (error03 rec) && error07 rec) _ e7 in
      let e9 = behind_none 8 (not (error03 rec) && error08 rec) _ e8 in
      let e10 = behind_none 9 (holds09 setting row rec) _ e9 in
      let e11 = behind_none 10 (not (error03 rec) && error10 setting.list rec) _ e10 in
      let e12 = behind_none 11 (not (error03 rec) && error11 rec) _ e11 in
      let e13 = behind_none 12 (not (error03 rec) && error12 rec) _ e12 in
      let e14 = behind_none 13 (not (error03 rec) && error13 setting.year rec) _ e13 in
      let e15 = behind_none 14 (not (error03 rec) && error14 rec) _ e14 in
      let e16 = behind_none 15 (not (error03 rec) && error15 rec) _ e15 in
      let e17 = behind_none 16 (not (error03 rec) && error16 rec) _ e16 in
      let e18 = behind_none 17 (holds17 setting row rec) _ e17 in
      let n03 = front_none 3 (error03 rec) _ e3 in
      let known : not (error03 rec) ≡ true = rw n03 in
      record {
        no01 = front_none 1 (error01 setting.state rec) _ e1;
        no02 = front_none 2 (error02 rec) _ e2;
        no03 = n03;
        no04 = front_none 4 (error04 rec) _ e4;
        no05 = front_none 5 (error05 rec) _ e5;
        no06 = and_second (not (error03 rec)) (error06 rec) known (front_none 6 (not (error03 rec) && error06 rec) _ e6);
        no07 = and_second (not (error03 rec)) (error07 rec) known (front_none 7 (not (error03 rec) && error07 rec) _ e7);
        no08 = and_second (not (error03 rec)) (error08 rec) known (front_none 8 (not (error03 rec) && error08 rec) _ e8);
        no09 = front_none 9 (holds09 setting row rec) _ e9;
        no10 = and_second (not (error03 rec)) (error10 setting.list rec) known (front_none 10 (not (error03 rec) && error10 setting.list rec) _ e10);
        no11 = and_second (not (error03 rec)) (error11 rec) known (front_none 11 (not (error03 rec) && error11 rec) _ e11);
        no12 = and_second (not (error03 rec)) (error12 rec) known (front_none 12 (not (error03 rec) && error12 rec) _ e12);
        no13 = and_second (not (error03 rec)) (error13 setting.year rec) known (front_none 13 (not (error03 rec) && error13 setting.year rec) _ e13);
        no14 = and_second (not (error03 rec)) (error14 rec) known (front_none 14 (not (error03 rec) && error14 rec) _ e14);
        no15 = and_second (not (error03 rec)) (error15 rec) known (front_none 15 (not (error03 rec) && error15 rec) _ e15);
        no16 = and_second (not (error03 rec)) (error16 rec) known (front_none 16 (not (error03 rec) && error16 rec) _ e16);
        no17 = front_none 17 (holds17 setting row rec) _ e17;
        no18 = only_none 18 (error18 rec) e18;
      }

  pub accepted_none : is_accepted setting row rec ≡ true → NoError setting row rec
  accepted_none t = errors_none (accepted_errors t)

  none_errors : NoError setting row rec → errors setting row rec ≡ []
  unfolding errors
  none_errors n =
      rw (n.no01, n.no02, n.no03, n.no04, n.no05, n.no06, n.no07, n.no08, n.no09)
      (rw (n.no10, n.no11, n.no12, n.no13, n.no14, n.no15, n.no16, n.no17, n.no18))

  pub none_accepted : NoError setting row rec → is_accepted setting row rec ≡ true
  none_accepted n = errors_accepted (none_errors n)

  -- an error changes nothing
  pub error_changes_nothing : is_accepted setting row rec ≡ false → next setting row rec ≡ row
  unfolding next
  error_changes_nothing f = rw f

-- ---- what the row has to do with a judgement

-- the row counts for the errors by 09 and 17 alone
errors_same : (setting : Setting) (r1 r2 : Option (List ℕ)) (rec : List ℕ)
    → holds09 setting r1 rec ≡ holds09 setting r2 rec → holds17 setting r1 rec ≡ holds17 setting r2 rec
    → errors setting r1 rec ≡ errors setting r2 rec
unfolding errors
errors_same setting r1 r2 rec e f = rw (e, f)

-- where 17 is judged of neither row, the judgement is its codes
judgement_same : (setting : Setting) (r1 r2 : Option (List ℕ)) (rec : List ℕ)
    → codes setting r1 rec ≡ codes setting r2 rec → holds17 setting r1 rec ≡ false → holds17 setting r2 rec ≡ false
    → judgement setting r1 rec ≡ judgement setting r2 rec
unfolding judgement
judgement_same setting r1 r2 rec c f g = rw (c, f, g)

-- ---- a wrong key

module _ (setting : Setting) (rec : List ℕ) (w : is_wrong_key setting rec ≡ true) where
  wrong_09 : (row : Option (List ℕ)) → holds09 setting row rec ≡ false
  unfolding holds09
  wrong_09 row = rw (w, and-false)

  wrong_17 : (row : Option (List ℕ)) → holds17 setting row rec ≡ false
  unfolding holds17
  wrong_17 row = rw (w, and-false)

-- 01, 02 or 04 is an error
pub wrong_rejected : (setting : Setting) (row : Option (List ℕ)) (rec : List ℕ)
    → is_wrong_key setting rec ≡ true → is_accepted setting row rec ≡ false
unfolding is_wrong_key
wrong_rejected setting row rec w = go (is_accepted setting row rec) refl
  where
    go : (b : Bool) → is_accepted setting row rec ≡ b → is_accepted setting row rec ≡ false
    go true e =
        let n = accepted_none setting row rec e in
        let f : is_wrong_key setting rec ≡ false = rw (n.no01, n.no02, n.no04) in
        cc
    go false e = e

module _ (setting : Setting) (rec : List ℕ) (w : is_wrong_key setting rec ≡ true) where
  wrong_codes : (r1 r2 : Option (List ℕ)) → codes setting r1 rec ≡ codes setting r2 rec
  unfolding codes
  wrong_codes r1 r2 =
      rw (wrong_rejected setting r1 rec w, wrong_rejected setting r2 rec w)
      (errors_same setting r1 r2 rec
      (wrong_09 setting rec w r1 ∙ sym (wrong_09 setting rec w r2)) (wrong_17 setting rec w r1 ∙ sym (wrong_17 setting rec w r2)))

  -- the judgement on a wrong key goes by no row
  pub wrong_key_same : (r1 r2 : Option (List ℕ)) → judgement setting r1 rec ≡ judgement setting r2 rec
  wrong_key_same r1 r2 =
      judgement_same setting r1 r2 rec (wrong_codes r1 r2) (wrong_17 setting rec w r1) (wrong_17 setting rec w r2)

-- ---- a key that is not a sound one of the control record's state

module _ (setting : Setting) (rec : List ℕ) (e : length rec ≡ 245) (f : is_own_key setting.state (record_key rec) ≡ false) where
  -- the record is judged as without a row
  pub judged_alone : (row : Option (List ℕ)) → judgement setting row rec ≡ judgement setting none rec
  judged_alone row = wrong_key_same setting rec (other_wrong setting rec e f) row none

  -- and changes none
  pub kept_alone : (row : Option (List ℕ)) → next setting row rec ≡ row
  kept_alone row = error_changes_nothing setting row rec (wrong_rejected setting row rec (other_wrong setting rec e f))

-- ---- 17 is judged of a live row alone

module _ (setting : Setting) (row : Option (List ℕ)) (rec : List ℕ) (t : holds17 setting row rec ≡ true) where
  rest_17 : (not (error05 rec) && (not (error09 row rec) && error17 setting.names row rec)) ≡ true
  unfolding holds17
  rest_17 = and_right (not (is_wrong_key setting rec)) _ (and_right (not (error03 rec)) _ t)

  only_17 : (not (error09 row rec) && error17 setting.names row rec) ≡ true
  only_17 = and_right (not (error05 rec)) (not (error09 row rec) && error17 setting.names row rec) rest_17

  -- another type, and all names differ
  differs_17 : (not (is_type A rec || is_type B rec) && (is_other_name row rec && not (is_given setting.names rec))) ≡ true
  unfolding error17
  differs_17 = and_right (not (error09 row rec)) (error17 setting.names row rec) only_17

  other_type : (is_type A rec || is_type B rec) ≡ false
  other_type = not-true (is_type A rec || is_type B rec) (and_left (not (is_type A rec || is_type B rec)) _ differs_17)

  other_name : is_other_name row rec ≡ true
  other_name =
      and_left (is_other_name row rec) (not (is_given setting.names rec))
      (and_right (not (is_type A rec || is_type B rec)) (is_other_name row rec && not (is_given setting.names rec)) differs_17)

  live_17 : is_live_row row ≡ true
  unfolding error09
  live_17 =
      let a : is_type A rec ≡ false = or_left (is_type A rec) (is_type B rec) other_type in
      let n : error09 row rec ≡ false = not-true (error09 row rec) (and_left (not (error09 row rec)) (error17 setting.names row rec) only_17) in
      let m : not (is_live_row row) ≡ false = rw a at n in
      not-false (is_live_row row) m

dead_17 : (setting : Setting) (row : Option (List ℕ)) (rec : List ℕ) → is_live_row row ≡ false → holds17 setting row rec ≡ false
dead_17 setting row rec d = go (holds17 setting row rec) refl
  where
    go : (b : Bool) → holds17 setting row rec ≡ b → holds17 setting row rec ≡ false
    go true e = cc (live_17 setting row rec e)
    go false e = e

-- ---- no row

none_dead : is_live_row none ≡ false
unfolding is_live_row
none_dead = refl

-- without a row the names given make no difference
module _ (state : List ℕ) (year : ℕ) (list rec : List ℕ) (names₁ names₂ : List (List ℕ)) where
  abbrev first : Setting
  first = setting_of state year list names₁

  abbrev second : Setting
  second = setting_of state year list names₂

  alone_17 : holds17 first none rec ≡ holds17 second none rec
  alone_17 = dead_17 first none rec none_dead ∙ sym (dead_17 second none rec none_dead)

  alone_errors : errors first none rec ≡ errors second none rec
  unfolding errors holds09 is_wrong_key
  alone_errors = rw alone_17

  alone_accepted : is_accepted first none rec ≡ is_accepted second none rec
  unfolding is_accepted
  alone_accepted = ap is_empty alone_errors

  pub alone_judged : judgement first none rec ≡ judgement second none rec
  unfolding judgement codes
  alone_judged = rw (alone_accepted, alone_errors, alone_17)

  pub alone_next : next first none rec ≡ next second none rec
  unfolding next
  alone_next = rw alone_accepted

-- ---- a deleted row

module _ (setting : Setting) (r : List ℕ) (rec : List ℕ) (d : is_live r ≡ false) where
  dead : is_live_row (some r) ≡ false
  unfolding is_live_row
  dead = d

  dead_09 : holds09 setting (some r) rec ≡ holds09 setting none rec
  unfolding holds09 error09
  dead_09 = rw (dead, none_dead)

  dead_warnings : warnings setting.list (some r) rec ≡ warnings setting.list none rec
  unfolding warnings warning52 is_renamed
  dead_warnings = rw d

  dead_errors : errors setting (some r) rec ≡ errors setting none rec
  dead_errors =
      errors_same setting (some r) none rec dead_09
      (dead_17 setting (some r) rec dead ∙ sym (dead_17 setting none rec none_dead))

  dead_codes : codes setting (some r) rec ≡ codes setting none rec
  unfolding codes is_accepted
  dead_codes = rw (dead_errors, dead_warnings)

  -- a deleted row is judged as no row
  pub deleted_as_none : judgement setting (some r) rec ≡ judgement setting none rec
  deleted_as_none =
      judgement_same setting (some r) none rec dead_codes (dead_17 setting (some r) rec dead) (dead_17 setting none rec none_dead)

-- ---- type A

module _ (setting : Setting) (rec : List ℕ) (a : is_type A rec ≡ true) where
  -- no row makes an error of type A
  pub added-errors_same : (r1 r2 : Option (List ℕ)) → errors setting r1 rec ≡ errors setting r2 rec
  added-errors_same r1 r2 = add-front setting r1 rec a ∙ sym (add-front setting r2 rec a)

  pub added_accepted_same : (r1 r2 : Option (List ℕ)) → is_accepted setting r1 rec ≡ is_accepted setting r2 rec
  unfolding is_accepted
  added_accepted_same r1 r2 = ap is_empty (added-errors_same r1 r2)

-- ---- 17 and the four stored characters

pub has_front : (c k : ℕ) (b : Bool) (cs : List ℕ) → has_code c (code k b ++ cs) ≡ (eqb k c && b || has_code c cs)
has_front c k true cs = rw (and-true (eqb k c))
has_front c k false cs = rw (and-false (eqb k c))

has_only : (c k : ℕ) (b : Bool) → has_code c (code k b) ≡ (eqb k c && b)
has_only c k true = or-false (eqb k c) ∙ sym (and-true (eqb k c))
has_only c k false = sym (and-false (eqb k c))

-- a row whose name differs is there
stored_row : (row : Option (List ℕ)) (rec : List ℕ) → is_other_name row rec ≡ true → (r : List ℕ) × (row ≡ some r)
unfolding is_other_name
stored_row none rec t = absurd (false≢true t)
stored_row (some r) rec t = (r, refl)

module _ (setting : Setting) (row : Option (List ℕ)) (rec : List ℕ) where
  errors_17 : has_code 17 (errors setting row rec) ≡ holds17 setting row rec
  unfolding errors
  errors_17 = simp (has_front, has_only) (or-false (holds17 setting row rec))

  warnings_17 : has_code 17 (warnings setting.list row rec) ≡ false
  unfolding warnings
  warnings_17 = simp (has_front, has_only)

  -- 17 is among the codes exactly where it is judged to hold
  pub code_17 : has_code 17 (judgement setting row rec).codes ≡ holds17 setting row rec
  unfolding judgement codes
  code_17 = go (is_accepted setting row rec) refl
    where
      go : (b : Bool) → is_accepted setting row rec ≡ b
          → has_code 17 (cond b (warnings setting.list row rec) (errors setting row rec)) ≡ holds17 setting row rec
      go true e = warnings_17 ∙ sym (accepted_none setting row rec e).no17
      go false e = errors_17

  name_of : (r : List ℕ) → row ≡ some r → holds17 setting row rec ≡ true
      → (judgement setting row rec).name ≡ some (columns 31 34 r)
  unfolding judgement
  name_of r e t = rw t (ap stored_name e)

  -- with 17 there is a row, and the name is its columns 31–34
  pub name_17 : holds17 setting row rec ≡ true
      → (r : List ℕ) × (row ≡ some r) × ((judgement setting row rec).name ≡ some (columns 31 34 r))
  name_17 t =
      let s = stored_row row rec (other_name setting row rec t) in
      (s.0, s.1, name_of s.0 s.1 t)

  -- without 17 there is no name
  pub no_name : holds17 setting row rec ≡ false → (judgement setting row rec).name ≡ none
  unfolding judgement
  no_name f = rw f

  pub named_17 : (bytes : List ℕ) → (judgement setting row rec).name ≡ some bytes → holds17 setting row rec ≡ true
  named_17 bytes e = go (holds17 setting row rec) refl
    where
      go : (b : Bool) → holds17 setting row rec ≡ b → holds17 setting row rec ≡ true
      go true t = t
      go false f = cc (no_name f)

  pub name_is : (bytes : List ℕ) → (judgement setting row rec).name ≡ some bytes
      → (r : List ℕ) × (row ≡ some r) × (bytes ≡ columns 31 34 r)
  name_is bytes e =
      let n = name_17 (named_17 bytes e) in
      (n.0, n.1, cc)

-- four bytes of a row
pub name_width : (r : List ℕ) → length r ≡ 200 → length (columns 31 34 r) ≡ 4
name_width r e = length-columns 31 34 r (record { low = lit≤ tt; ordered = lit≤ tt; high = omega arith })
