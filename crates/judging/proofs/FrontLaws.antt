-- A record's errors are both parts together; what the first part alone decides, whatever the row and the names given. Assumes nothing.
use Prim.Native.Nat.{ℕ, ◌+◌, ◌^◌}
use mathlib.Core.Path.{◌≡◌, refl, sym, ap, ◌∙◌}
use mathlib.Core.Bool.{Bool, true, false, not, cond, ◌&&◌, ◌||◌, and_assoc, and-false}
use mathlib.Core.List.{List, [], ◌∷◌, ◌++◌}
use mathlib.Core.Option.{Option}
use native.Mathlib.Omega.{arith}
use lib.Dec.{eqb}
use lib.ListN.{length, get_or}
use borrow.Author.Tests.{eqb-true, ne_eqb}
use Rattle.text.specs.Characters.{A, B}
use Rattle.layout.specs.Codes.{number_of_codes}
use Rattle.layout.specs.Key.{is_own_key}
use Rattle.layout.specs.Record.{is_type, record_key}
use Rattle.judging.specs.Errors.{error01, error02, error03, error04, error05, error06, error07, error08, error09, error10, error11, error12, error13, error14, error15, error16, error17, error18, if_known, is_wrong_key, holds09, holds17, code, errors}
use Rattle.judging.specs.Names.{gives_name}
use Rattle.judging.specs.Parts.{IsFirst, first_codes, codes06to08, codes10to13, codes14to16}
use Rattle.judging.specs.Front.{other_codes, front_errors, row_errors, IsFront}
use Rattle.judging.specs.Setting.{Setting, setting_of}
use Rattle.judging.specs.declared.parts.FirstErrors.{FirstErrors}
use Rattle.judging.specs.declared.front.FrontErrors.{FrontErrors}
use Rattle.judging.proofs.CodeSums.{number-code, number_none}
use Rattle.judging.proofs.OwnKeyLaws.{own_wrong}

-- ---- the first part as a list

-- its codes, one by one
abbrev front_list : List ℕ → ℕ → List ℕ → List ℕ → List ℕ
front_list state year list rec =
    code 1 (error01 state rec)
    ++ (code 2 (error02 rec)
    ++ (code 3 (error03 rec)
    ++ (code 4 (error04 rec)
    ++ (code 5 (error05 rec)
    ++ (code 6 (if_known rec (error06 rec))
    ++ (code 7 (if_known rec (error07 rec))
    ++ (code 8 (if_known rec (error08 rec))
    ++ (code 10 (if_known rec (error10 list rec))
    ++ (code 11 (if_known rec (error11 rec))
    ++ (code 12 (if_known rec (error12 rec))
    ++ (code 13 (if_known rec (error13 year rec))
    ++ (code 14 (if_known rec (error14 rec))
    ++ (code 15 (if_known rec (error15 rec))
    ++ (code 16 (if_known rec (error16 rec))
    ++ code 18 (error18 rec)))))))))))))))

-- a code at the front is kept, or is 09 or 17
others_front : (c : ℕ) (b : Bool) (rest : List ℕ)
    → other_codes (code c b ++ rest) ≡ cond (eqb c 9 || eqb c 17) [] (code c b) ++ other_codes rest
unfolding other_codes
others_front c true rest = go (eqb c 9 || eqb c 17)
  where
    go : (r : Bool) → cond r (other_codes rest) (c ∷ other_codes rest) ≡ cond r [] (c ∷ []) ++ other_codes rest
    go true = refl
    go false = refl
others_front c false rest = go (eqb c 9 || eqb c 17)
  where
    go : (r : Bool) → other_codes rest ≡ cond {A = List ℕ} r [] [] ++ other_codes rest
    go true = refl
    go false = refl

others_18 : (b : Bool) → other_codes (code 18 b) ≡ code 18 b
unfolding other_codes
others_18 true = refl
others_18 false = refl

front_list_lem : (state : List ℕ) (year : ℕ) (list rec : List ℕ) → front_errors state year list rec ≡ front_list state year list rec
unfolding front_errors errors
front_list_lem state year list rec = simp (others_front, others_18) refl

-- ---- both parts together

module _ (setting : Setting) (row : Option (List ℕ)) (rec : List ℕ) where
  -- the errors of a record on a row are both parts
  pub front-and-row : number_of_codes (errors setting row rec)
      ≡ number_of_codes (front_errors setting.state setting.year setting.list rec) + number_of_codes (row_errors setting row rec)
  unfolding errors row_errors
  front-and-row = rw (front_list_lem setting.state setting.year setting.list rec) (simp number-code (omega arith))

  -- where neither 09 nor 17 holds, the first part is all
  pub front_alone : holds09 setting row rec ≡ false → holds17 setting row rec ≡ false
      → errors setting row rec ≡ front_errors setting.state setting.year setting.list rec
  unfolding errors
  front_alone e f = rw (e, f) (sym (front_list_lem setting.state setting.year setting.list rec))

  -- an A has neither 09 nor 17
  pub add_09 : is_type A rec ≡ true → holds09 setting row rec ≡ false
  unfolding holds09 error09
  add_09 t = rw (t, and-false, and-false)

  pub add_17 : is_type A rec ≡ true → holds17 setting row rec ≡ false
  unfolding holds17 error17
  add_17 t = simp (t, and-false)

  pub add-front : is_type A rec ≡ true → errors setting row rec ≡ front_errors setting.state setting.year setting.list rec
  add-front t = front_alone (add_09 t) (add_17 t)

  -- both sets add up to that of all errors
  pub both_sets : (m n : ℕ) → m ≡ number_of_codes (front_errors setting.state setting.year setting.list rec)
      → n ≡ number_of_codes (row_errors setting row rec) → m + n ≡ number_of_codes (errors setting row rec)
  both_sets m n e d = rw (e, d) (sym front-and-row)

-- ---- the first part, from the parts in which the code judges it

module _ (state : List ℕ) (year : ℕ) (list rec : List ℕ) where
  module _ (f : FirstErrors) (i : IsFirst state rec f) where
    pub front-set : (m n o p q : ℕ)
        → m ≡ number_of_codes (first_codes f)
        → n ≡ number_of_codes (codes06to08 (not f.kind) rec)
        → o ≡ number_of_codes (codes10to13 (not f.kind) year list rec)
        → p ≡ number_of_codes (codes14to16 (not f.kind) rec)
        → q ≡ number_of_codes (code 18 (error18 rec))
        → m + n + o + p + q ≡ number_of_codes (front_errors state year list rec)
    front-set m n o p q em en eo ep eq =
        rw (em, en, eo, ep, eq, i.has01, i.has02, i.has03, i.has04, i.has05, front_list_lem state year list rec)
        (simp number-code (omega arith))

  -- ---- 09 and 17, from the first part

  module _ (f : FrontErrors) (i : IsFront state year list rec f) (names : List (List ℕ)) (row : Option (List ℕ)) where
    pub row_09 : (not f.kind && not f.key && error09 row rec) ≡ holds09 (setting_of state year list names) row rec
    unfolding holds09 is_wrong_key
    row_09 =
        rw (i.kind_is, i.key_is)
        (and_assoc (not (error03 rec)) (not (error01 state rec || error02 rec || error04 rec)) (error09 row rec))

    pub row_17 : (not f.kind && not f.key && (not f.name && (not (error09 row rec) && error17 names row rec)))
        ≡ holds17 (setting_of state year list names) row rec
    unfolding holds17 is_wrong_key
    row_17 =
        rw (i.kind_is, i.key_is, i.name_is)
        (and_assoc (not (error03 rec)) (not (error01 state rec || error02 rec || error04 rec))
        (not (error05 rec) && (not (error09 row rec) && error17 names row rec)))

    pub row-set : (m n : ℕ) (missing named : Bool)
        → m ≡ number_of_codes (code 9 missing) → n ≡ number_of_codes (code 17 named)
        → missing ≡ holds09 (setting_of state year list names) row rec
        → named ≡ holds17 (setting_of state year list names) row rec
        → m + n ≡ number_of_codes (row_errors (setting_of state year list names) row rec)
    unfolding row_errors
    row-set m n missing named em en e9 e17 =
        rw (em, en, e9, e17)
        (sym (number-code 9 (holds09 (setting_of state year list names) row rec) (code 17 (holds17 (setting_of state year list names) row rec))))

-- ---- no error of the first part

none_of : (e1 e2 e3 e4 e5 : Bool) (rest : List ℕ)
    → number_of_codes (code 1 e1 ++ (code 2 e2 ++ (code 3 e3 ++ (code 4 e4 ++ (code 5 e5 ++ rest))))) ≡ 0
    → (false ≡ (e1 || e2 || e4)) × (false ≡ e3) × (false ≡ e5)
none_of true e2 e3 e4 e5 rest z = absurd (omega arith)
none_of false true e3 e4 e5 rest z = absurd (omega arith)
none_of false false true e4 e5 rest z = absurd (omega arith)
none_of false false false true e5 rest z = absurd (omega arith)
none_of false false false false true rest z = absurd (omega arith)
none_of false false false false false rest z = (refl, refl, refl)

pub front_clean : (state : List ℕ) (year : ℕ) (list rec : List ℕ) → number_of_codes (front_errors state year list rec) ≡ 0
    → IsFront state year list rec (record { set = 0; key = false; kind = false; name = false })
front_clean state year list rec z =
    let l = ap number_of_codes (sym (front_list_lem state year list rec)) ∙ z in
    let n = none_of (error01 state rec) (error02 rec) (error03 rec) (error04 rec) (error05 rec) _ l in
    record { set_is = sym z; key_is = n.0; kind_is = n.1; name_is = n.2 }

-- ---- a B gives its name exactly where it has no error of the first part

-- a list of codes is empty where none of them holds
empty_code : (c : ℕ) (b : Bool) (rest : List ℕ) → eqb (number_of_codes (code c b ++ rest)) 0 ≡ (not b && eqb (number_of_codes rest) 0)
empty_code c true rest =
    ne_eqb (2 ^ c + number_of_codes rest) 0
    (λ (z : 2 ^ c + number_of_codes rest ≡ 0).
    let n : c ∷ rest ≡ [] = number_none (c ∷ rest) z in
    let x : ◌≡◌ {A = ℕ} 0 1 = cc in
    omega arith)
empty_code c false rest = refl

empty_18 : (b : Bool) → eqb (number_of_codes (code 18 b)) 0 ≡ not b
empty_18 true = refl
empty_18 false = refl

gives_none : (e1 e2 e3 e4 e5 e6 e18 : Bool)
    → not (e1 || e2 || e3 || e4 || e5 || e6 || e18)
    ≡ eqb (number_of_codes (code 1 e1 ++ (code 2 e2 ++ (code 3 e3 ++ (code 4 e4 ++ (code 5 e5 ++ (code 6 (not e3 && e6) ++ code 18 e18))))))) 0
gives_none e1 e2 e3 e4 e5 e6 e18 = simp (empty_code, empty_18) (go e1 e2 e3 e4 e5 e6 e18)
  where
    go : (e1 e2 e3 e4 e5 e6 e18 : Bool) → not (e1 || e2 || e3 || e4 || e5 || e6 || e18)
        ≡ (not e1 && (not e2 && (not e3 && (not e4 && (not e5 && (not (not e3 && e6) && not e18))))))
    go true e2 e3 e4 e5 e6 e18 = refl
    go false true e3 e4 e5 e6 e18 = refl
    go false false true e4 e5 e6 e18 = refl
    go false false false true e5 e6 e18 = refl
    go false false false false true e6 e18 = refl
    go false false false false false true e18 = refl
    go false false false false false false e18 = refl

-- a B has no error from 07 to 16 but, it may be, 09
module _ (rec : List ℕ) (e : get_or rec 72 0 ≡ B) where
  b_07 : error07 rec ≡ false
  unfolding error07
  b_07 = rw e

  b_08 : error08 rec ≡ false
  unfolding error08
  b_08 = rw e

  b_10 : (list : List ℕ) → error10 list rec ≡ false
  unfolding error10
  b_10 list = rw e

  b_11 : error11 rec ≡ false
  unfolding error11
  b_11 = rw e

  b_12 : error12 rec ≡ false
  unfolding error12
  b_12 = rw e

  b_13 : (year : ℕ) → error13 year rec ≡ false
  unfolding error13
  b_13 year = rw e

  b_14 : error14 rec ≡ false
  unfolding error14
  b_14 = rw e

  b_15 : error15 rec ≡ false
  unfolding error15
  b_15 = rw e

  b_16 : error16 rec ≡ false
  unfolding error16
  b_16 = rw e

  b_front : (state : List ℕ) (year : ℕ) (list : List ℕ)
      → front_errors state year list rec
      ≡ code 1 (error01 state rec) ++ (code 2 (error02 rec) ++ (code 3 (error03 rec) ++ (code 4 (error04 rec) ++ (code 5 (error05 rec)
      ++ (code 6 (not (error03 rec) && error06 rec) ++ code 18 (error18 rec))))))
  b_front state year list =
      rw (front_list_lem state year list rec, b_07, b_08, b_10 list, b_11, b_12, b_13 year, b_14, b_15, b_16, and-false (not (error03 rec)))

pub gives_front : (state : List ℕ) (year : ℕ) (list rec : List ℕ)
    → gives_name state rec ≡ (is_type B rec && eqb (number_of_codes (front_errors state year list rec)) 0)
unfolding gives_name
gives_front state year list rec = go (is_type B rec) refl
  where
    go : (b : Bool) → is_type B rec ≡ b
        → (b && not (error01 state rec || error02 rec || error03 rec || error04 rec || error05 rec || error06 rec || error18 rec))
        ≡ (b && eqb (number_of_codes (front_errors state year list rec)) 0)
    go true t =
        gives_none (error01 state rec) (error02 rec) (error03 rec) (error04 rec) (error05 rec) (error06 rec) (error18 rec)
        ∙ ap (λ (l : List ℕ). eqb (number_of_codes l) 0) (sym (b_front rec (eqb-true (get_or rec 72 0) B t) state year list))
    go false t = refl

-- a key is a sound one of the control record's state exactly where the first part has none of 01, 02 and 04
pub own_front : (state : List ℕ) (year : ℕ) (list rec : List ℕ) (f : FrontErrors) → length rec ≡ 245 → IsFront state year list rec f
    → is_own_key state (record_key rec) ≡ not f.key
unfolding is_wrong_key
own_front state year list rec f e i = own_wrong (setting_of state year list []) rec e ∙ ap not (sym i.key_is)
