-- Laws of a name's columns: its first byte, and the rest from any index on. Assumes nothing.
use mathlib.Core.Path.{◌≡◌, refl, ◌∙◌}
use mathlib.Core.Bool.{Bool, true, false, cond, not, ◌&&◌}
use mathlib.Core.List.{List, [], ◌∷◌}
use Prim.Native.Nat.{ℕ, suc, ◌+◌, ◌≤◌, ◌<◌}
use native.Mathlib.Nat.{not-suc-le-zero}
use native.Mathlib.Omega.{arith}
use lib.Dec.{eqb, ltb}
use lib.ListN.{length, get_or, drop}
use borrow.Author.Tests.{ltb-true, ltb-false, ne_eqb}
use Rattle.std.specs.Prelude.{Some, None}
use Rattle.std.specs.List.{position_or_len}
use Rattle.text.specs.Characters.{is_letter}
use Rattle.text.specs.Fields.{is_blank}
use Rattle.text.proofs.FieldsLaws.{and_left, and_right}
use Rattle.layout.specs.Name.{is_name_byte, is_name_rest, is_name, has_letter}

-- ---- the first byte

pub name_none : (s : List ℕ) → length s ≡ 0 → is_name s ≡ false
unfolding is_name
name_none [] e = refl
name_none (b ∷ bs) e = absurd (omega arith)

pub name_fails : (s : List ℕ) → is_name_byte (get_or s 0 0) ≡ false → is_name s ≡ false
unfolding is_name
name_fails [] t = refl
name_fails (b ∷ bs) t = rw t

-- ---- up to the first byte that is no letter and no hyphen

-- no letter and no hyphen
abbrev pub is_other : ℕ → Bool
is_other b = not (is_name_byte b)

-- where that byte stands, or how many bytes there are
abbrev pub first_other : List ℕ → ℕ
first_other s = position_or_len is_other s

-- the rest of a name ends there, with spaces
rest_other : (s : List ℕ) → first_other s < length s → is_name_rest s ≡ is_blank (drop (first_other s) s)
unfolding is_name_rest
rest_other [] h = absurd (not-suc-le-zero h)
rest_other (b ∷ bs) h = go (is_name_byte b) refl h (rest_other bs)
  where
    go : (t : Bool) → is_name_byte b ≡ t → first_other (b ∷ bs) < suc (length bs)
        → (first_other bs < length bs → is_name_rest bs ≡ is_blank (drop (first_other bs) bs))
        → is_name_rest (b ∷ bs) ≡ is_blank (drop (first_other (b ∷ bs)) (b ∷ bs))
    go true e h r =
        let k = rw e at h in
        let w : 1 + first_other bs ≡ suc (first_other bs) = omega arith in
        rw (e, w) (r (omega (arith, k)))
    go false e h r = rw e

-- a name goes on to the end where there is no such byte
rest_whole : (s : List ℕ) → length s ≤ first_other s → is_name_rest s ≡ true
unfolding is_name_rest
rest_whole [] h = refl
rest_whole (b ∷ bs) h = go (is_name_byte b) refl h (rest_whole bs)
  where
    go : (t : Bool) → is_name_byte b ≡ t → suc (length bs) ≤ first_other (b ∷ bs)
        → (length bs ≤ first_other bs → is_name_rest bs ≡ true) → is_name_rest (b ∷ bs) ≡ true
    go true e h r = let k = rw e at h in rw e (r (omega (arith, k)))
    go false e h r = let k = rw e at h in absurd (not-suc-le-zero k)

-- a first byte of a name is one of its rest
name_rest : (b : ℕ) (bs : List ℕ) → is_name_byte b ≡ true → is_name (b ∷ bs) ≡ is_name_rest (b ∷ bs)
unfolding is_name is_name_rest
name_rest b bs t = rw t

-- the byte that is no letter and no hyphen as position finds it
module _ (s : List ℕ) (i : ℕ) (e : Some i ≡ cond (ltb (first_other s) (length s)) (Some (first_other s)) None) where
  pub other_at : (i ≡ first_other s) × (i < length s)
  other_at = go (ltb (first_other s) (length s)) refl e
    where
      go : (t : Bool) → ltb (first_other s) (length s) ≡ t → Some i ≡ cond t (Some (first_other s)) None → (i ≡ first_other s) × (i < length s)
      go true l d = let f : i ≡ first_other s = cc in (f, omega (arith, f, ltb-true (first_other s) (length s) l))
      go false l d = cc

  -- it stands behind others
  pub name_other : (i ≡ 0 → ⊥) → is_name s ≡ is_blank (drop i s)
  name_other n = go s other_at.0 other_at.1
    where
      go : (t : List ℕ) → i ≡ first_other t → i < length t → is_name t ≡ is_blank (drop i t)
      go [] f h = absurd (not-suc-le-zero h)
      go (b ∷ bs) f h = by (is_name_byte b) refl
        where
          by : (t : Bool) → is_name_byte b ≡ t → is_name (b ∷ bs) ≡ is_blank (drop i (b ∷ bs))
          by true d = name_rest b bs d ∙ rw f (rest_other (b ∷ bs) (rw f at h))
          by false d = absurd (n (f ∙ rw d))

  -- it is the first
  pub name_fails_at : i ≡ 0 → is_name s ≡ false
  unfolding is_name
  name_fails_at z = go s other_at.0 other_at.1
    where
      go : (t : List ℕ) → i ≡ first_other t → i < length t → is_name t ≡ false
      go [] f h = refl
      go (b ∷ bs) f h = by (is_name_byte b) refl
        where
          by : (t : Bool) → is_name_byte b ≡ t → is_name (b ∷ bs) ≡ false
          by true d = let g = rw d at f in absurd (omega (arith, g, z))
          by false d = rw d

-- there is none
pub name_whole : (s : List ℕ) → None ≡ cond (ltb (first_other s) (length s)) (Some (first_other s)) None → is_name s ≡ not (eqb (length s) 0)
unfolding is_name
name_whole [] e = refl
name_whole (b ∷ bs) e = rw (ne_eqb (length (b ∷ bs)) 0 (λ z. omega arith)) (by (is_name_byte b) refl)
  where
    over : length (b ∷ bs) ≤ first_other (b ∷ bs)
    over = go (ltb (first_other (b ∷ bs)) (length (b ∷ bs))) refl e
      where
        go : (t : Bool) → ltb (first_other (b ∷ bs)) (length (b ∷ bs)) ≡ t → None ≡ cond t (Some (first_other (b ∷ bs))) None
            → length (b ∷ bs) ≤ first_other (b ∷ bs)
        go true l d = cc
        go false l d = ltb-false (first_other (b ∷ bs)) (length (b ∷ bs)) l

    by : (t : Bool) → is_name_byte b ≡ t → is_name (b ∷ bs) ≡ true
    by true d = name_rest b bs d ∙ rest_whole (b ∷ bs) over
    by false d = let g = rw d at over in absurd (not-suc-le-zero g)

-- four letters are a name
pub four_name : (s : List ℕ) → length s ≡ 4
    → (is_letter (get_or s 0 0) && is_letter (get_or s 1 0) && is_letter (get_or s 2 0) && is_letter (get_or s 3 0)) ≡ true → is_name s ≡ true
unfolding is_name is_name_rest is_name_byte
four_name [] l t = absurd (let x : 0 ≡ 4 = l in omega arith)
four_name (a ∷ []) l t = absurd (let x : 1 ≡ 4 = l in omega arith)
four_name (a ∷ b ∷ []) l t = absurd (let x : 2 ≡ 4 = l in omega arith)
four_name (a ∷ b ∷ c ∷ []) l t = absurd (let x : 3 ≡ 4 = l in omega arith)
four_name (a ∷ b ∷ c ∷ d ∷ []) l t =
    let u = and_left (is_letter a && is_letter b && is_letter c) (is_letter d) t in
    let v = and_left (is_letter a && is_letter b) (is_letter c) u in
    rw (
      and_left (is_letter a) (is_letter b) v,
      and_right (is_letter a) (is_letter b) v,
      and_right (is_letter a && is_letter b) (is_letter c) u,
      and_right (is_letter a && is_letter b && is_letter c) (is_letter d) t,
    )
four_name (a ∷ b ∷ c ∷ d ∷ e ∷ s) l t = absurd (let x : suc (suc (suc (suc (suc (length s))))) ≡ 4 = l in omega arith)

-- and have one
pub four_letter : (s : List ℕ) → (is_letter (get_or s 0 0) && is_letter (get_or s 1 0) && is_letter (get_or s 2 0) && is_letter (get_or s 3 0)) ≡ true → has_letter s ≡ true
unfolding has_letter is_letter
four_letter [] t = cc
four_letter (a ∷ s) t =
    let u = and_left (is_letter a && is_letter (get_or s 0 0) && is_letter (get_or s 1 0)) (is_letter (get_or s 2 0)) t in
    let v = and_left (is_letter a && is_letter (get_or s 0 0)) (is_letter (get_or s 1 0)) u in
    rw (and_left (is_letter a) (is_letter (get_or s 0 0)) v)
