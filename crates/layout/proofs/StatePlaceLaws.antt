-- Laws of the place of a state in the table: it is below 54, and places stand as the states' numbers do. Assumes nothing.
use mathlib.Core.Path.{◌≡◌, refl, ap, ◌∙◌}
use mathlib.Core.Bool.{Bool, true, false, cond, ◌||◌, or-true}
use mathlib.Core.List.{List, [], ◌∷◌, map}
use Prim.Native.Nat.{ℕ, suc, ◌+◌, ◌≤◌, ◌<◌}
use native.Mathlib.Numerals.{add-one}
use native.Mathlib.Omega.{arith}
use borrow.Author.Tests.{ltb-true, ltb-false, lt-ltb, le-ltb, eqb-true, eq-eqb}
use lib.Dec.{eqb, ltb}
use lib.ListN.{length, get_or, drop, drop_of_length-le}
use lib.Seq.{drop-cons}
use Rattle.text.specs.Fields.{same_bytes, is_one_of}
use Rattle.text.proofs.FieldsLaws.{and_left, and_right}
use Rattle.text.proofs.SameLaws.{same_eq}
use Rattle.layout.specs.States.{state_table, is_state}
use Rattle.layout.specs.StateCodes.{code_of, state_codes, is_in, count_below, state_place}
use Rattle.layout.proofs.StatesLaws.{is_pair, are_pairs, states_length, states_pairs, pair_low}

-- ---- how many numbers of a list are below another, from the number at i on

pub count_next : (x : ℕ) (l : List ℕ) (i : ℕ) → i < length l
    → count_below x (drop i l) ≡ cond (ltb (get_or l i 0) x) 1 0 + count_below x (drop (i + 1) l)
unfolding count_below
count_next x l i h = rw (drop-cons l i 0 h, add-one i)

pub count_end : (x : ℕ) (l : List ℕ) (i : ℕ) → length l ≤ i → count_below x (drop i l) ≡ 0
unfolding count_below
count_end x l i h = rw (drop_of_length-le l h)

-- ---- more numbers are below a larger one

module _ (x y : ℕ) where
  count_step : (z m n : ℕ) → x ≤ y → m ≤ n → cond (ltb z x) 1 0 + m ≤ cond (ltb z y) 1 0 + n
  count_step z m n h i = go (ltb z x) (ltb z y) refl refl
    where
      go : (p q : Bool) → ltb z x ≡ p → ltb z y ≡ q → cond p 1 0 + m ≤ cond q 1 0 + n
      go true true e f = omega arith
      go true false e f = absurd (omega (arith, ltb-true z x e, ltb-false z y f))
      go false true e f = omega arith
      go false false e f = omega arith

  count_mono : (l : List ℕ) → x ≤ y → count_below x l ≤ count_below y l
  unfolding count_below
  count_mono [] h = omega arith
  count_mono (z ∷ l) h = count_step z (count_below x l) (count_below y l) h (count_mono l h)

  count_strict : (l : List ℕ) → x < y → is_in x l ≡ true → count_below x l < count_below y l
  unfolding count_below
  count_strict [] h t = let z : ◌≡◌ {A = ℕ} 0 1 = cc in absurd (omega arith)
  count_strict (z ∷ l) h t = go (eqb x z) refl t (count_strict l h)
    where
      go : (p : Bool) → eqb x z ≡ p → (p || is_in x l) ≡ true → (is_in x l ≡ true → count_below x l < count_below y l)
          → cond (ltb z x) 1 0 + count_below x l < cond (ltb z y) 1 0 + count_below y l
      go true e u k =
          let r = eqb-true x z e in
          let m : x ≤ y = omega arith in
          rw (le-ltb z x (omega arith), lt-ltb z y (omega arith)) (omega (arith, count_mono l m))
      go false e u k =
          let m : x ≤ y = omega arith in
          let i = k u in
          let s = count_step z (suc (count_below x l)) (count_below y l) m i in
          omega arith

count_within : (x : ℕ) (l : List ℕ) → count_below x l ≤ length l
unfolding count_below
count_within x [] = omega arith
count_within x (z ∷ l) = go (ltb z x) (count_within x l)
  where
    go : (p : Bool) → count_below x l ≤ length l → cond p 1 0 + count_below x l ≤ suc (length l)
    go true h = omega arith
    go false h = omega arith

-- an entry is not below itself
count_in_lem : (x : ℕ) (l : List ℕ) → is_in x l ≡ true → count_below x l < length l
count_in_lem x l t = let s = count_strict x (suc x) l (omega arith) t in omega (arith, count_within (suc x) l)

-- ---- a state among the states

state_among : (s : List ℕ) (ts : List (List ℕ)) → is_one_of s ts ≡ true → is_in (code_of s) (map code_of ts) ≡ true
unfolding is_one_of
state_among s [] t = cc
state_among s (u ∷ ts) t = go (same_bytes s u) refl t (state_among s ts)
  where
    go : (p : Bool) → same_bytes s u ≡ p → (p || is_one_of s ts) ≡ true → (is_one_of s ts ≡ true → is_in (code_of s) (map code_of ts) ≡ true)
        → (eqb (code_of s) (code_of u) || is_in (code_of s) (map code_of ts)) ≡ true
    go true e v k = rw (eq-eqb (code_of s) (code_of u) (ap code_of (same_eq s u e)))
    go false e v k = rw (k v) (or-true (eqb (code_of s) (code_of u)))

state_pair : (s : List ℕ) (ts : List (List ℕ)) → is_one_of s ts ≡ true → are_pairs ts ≡ true → is_pair s ≡ true
unfolding is_one_of
state_pair s [] t a = cc
state_pair s (u ∷ ts) t a = go (same_bytes s u) refl t (λ v. state_pair s ts v (and_right (is_pair u) (are_pairs ts) a))
  where
    go : (p : Bool) → same_bytes s u ≡ p → (p || is_one_of s ts) ≡ true → (is_one_of s ts ≡ true → is_pair s ≡ true) → is_pair s ≡ true
    go true e v k = ap is_pair (same_eq s u e) ∙ and_left (is_pair u) (are_pairs ts) a
    go false e v k = k v

module _ (s : List ℕ) (t : is_state s ≡ true) where
  state_in : is_in (code_of s) state_codes ≡ true
  unfolding is_state state_codes
  state_in = state_among s state_table t

  -- a state's second byte is the low one of its number
  pub state_low : get_or s 1 0 < 256
  unfolding is_state
  state_low = pair_low s (state_pair s state_table t states_pairs)

  pub place_below : state_place s < 54
  unfolding state_place
  place_below = omega (arith, count_in_lem (code_of s) state_codes state_in, states_length)

  pub place_rises : (u : List ℕ) → code_of s < code_of u → state_place s < state_place u
  unfolding state_place
  place_rises u h = count_strict (code_of s) (code_of u) state_codes h state_in
