-- Laws of two-byte codes looked up as numbers, over any list of codes; and of the state table: its length, its rising order and that each
-- entry is two bytes are computed.
-- Assumes nothing.
use mathlib.Core.Path.{◌≡◌, refl, sym, ◌∙◌}
use mathlib.Core.Bool.{Bool, true, false, ◌&&◌, ◌||◌, or_assoc, or-false}
use mathlib.Core.List.{List, [], ◌∷◌, map}
use Prim.Native.Nat.{ℕ, ◌+◌, ◌*◌, ◌<◌}
use native.Mathlib.Omega.{arith}
use borrow.Author.Tests.{ltb-true, eq-eqb, ne_eqb, eqb-true, eqb-false}
use lib.Dec.{ltb, eqb}
use lib.ListN.{length, get_or, get_or-map}
use mir.Syntax.{w16}
use Rattle.std.specs.Int.{from_be_bytes}
use Rattle.std.specs.List.{fold}
use Rattle.text.specs.Fields.{same_bytes, is_one_of}
use Rattle.layout.specs.States.{state_table, is_state}
use Rattle.layout.specs.StateCodes.{code_of, state_codes, rising_numbers, is_in, is_state_code}
use Rattle.text.proofs.FieldsLaws.{and_left, and_right}
use Rattle.text.proofs.SameLaws.{same_lengths}

-- two-byte codes

-- two bytes, the lower below 256
data Pair : List ℕ → Type 0 where
  pair : (x y : ℕ) → y < 256 → Pair (x ∷ y ∷ [])

-- the same as a test, which computes on a table
abbrev pub is_pair : List ℕ → Bool
is_pair s = eqb (length s) 2 && ltb (get_or s 1 0) 256

abbrev pub are_pairs : List (List ℕ) → Bool
are_pairs [] = true
are_pairs (t ∷ ts) = is_pair t && are_pairs ts

pair_of : (s : List ℕ) → length s ≡ 2 → get_or s 1 0 < 256 → Pair s
pair_of [] e h = absurd (omega arith)
pair_of (x ∷ []) e h = absurd (omega arith)
pair_of (x ∷ y ∷ []) e h = pair x y h
pair_of (x ∷ y ∷ z ∷ l) e h = absurd (omega arith)

module _ (s : List ℕ) (t : is_pair s ≡ true) where
  pair_length : length s ≡ 2
  pair_length = eqb-true (length s) 2 (and_left _ (ltb (get_or s 1 0) 256) t)

  pub pair_low : get_or s 1 0 < 256
  pair_low = ltb-true _ 256 (and_right (eqb (length s) 2) _ t)

-- two pairs are the same bytes where they are the same number
module _ (x y a b : ℕ) (h : y < 256) (k : b < 256) where
  same_number : (p q : Bool) → eqb x a ≡ p → eqb y b ≡ q → p && (q && true) ≡ eqb (x * 256 + y) (a * 256 + b)
  same_number true true d e =
      let r : x * 256 + y ≡ a * 256 + b = omega (arith, eqb-true x a d, eqb-true y b e) in
      sym (eq-eqb _ _ r)
  same_number true false d e =
      sym (ne_eqb _ _ (λ (r : x * 256 + y ≡ a * 256 + b). eqb-false y b e (omega (arith, eqb-true x a d))))
  same_number false q d e = sym (ne_eqb _ _ (λ (r : x * 256 + y ≡ a * 256 + b). eqb-false x a d (omega arith)))

same_code : {s t : List ℕ} → Pair s → Pair t → same_bytes s t ≡ eqb (code_of s) (code_of t)
unfolding same_bytes
same_code (pair x y h) (pair a b k) = same_number x y a b h k (eqb x a) (eqb y b) refl refl

-- a pair is one of a list of pairs where its number is one of theirs
pub one_of_codes : (s : List ℕ) → length s ≡ 2 → get_or s 1 0 < 256 →
    (ts : List (List ℕ)) → are_pairs ts ≡ true → is_one_of s ts ≡ is_in (code_of s) (map code_of ts)
unfolding is_one_of
one_of_codes s e h [] r = refl
one_of_codes s e h (t ∷ ts) r =
    let u : is_pair t ≡ true = and_left (is_pair t) (are_pairs ts) r in
    rw
    (same_code (pair_of s e h) (pair_of t (pair_length t u) (pair_low t u)), one_of_codes s e h ts (and_right (is_pair t) (are_pairs ts) r))

-- what has another length is not one of them
pub one_of_none : (s : List ℕ) → (length s ≡ 2 → ⊥) → (ts : List (List ℕ)) → are_pairs ts ≡ true → is_one_of s ts ≡ false
unfolding is_one_of
one_of_none s h [] r = refl
one_of_none s h (t ∷ ts) r =
    let u : is_pair t ≡ true = and_left (is_pair t) (are_pairs ts) r in
    rw (same_lengths s t (λ e. h (e ∙ pair_length t u)), one_of_none s h ts (and_right (is_pair t) (are_pairs ts) r))

-- the state table, computed

pub states_length : length state_codes ≡ 54
unfolding state_codes state_table
states_length = refl

pub states_rising : rising_numbers state_codes ≡ true
unfolding state_codes state_table
states_rising = refl

pub states_pairs : are_pairs state_table ≡ true
unfolding state_table
states_pairs = refl

-- the code of an entry, read from the table
pub state_code : {table : List (List ℕ)} → table ≡ state_table → (i : ℕ) → code_of (get_or table i []) ≡ get_or state_codes i 0
unfolding state_codes
state_code e i = rw e (sym (get_or-map code_of state_table i []))

-- a number compared with each of a list, gathered from the first on
pub in-fold : (x : ℕ) (found : Bool) (l : List (List ℕ)) → fold (λ (b : Bool) (t : List ℕ). b || eqb x (code_of t)) found l ≡ (found || is_in x (map code_of l))
in-fold x found [] = sym (or-false found)
in-fold x found (t ∷ l) = in-fold x (found || eqb x (code_of t)) l ∙ or_assoc found (eqb x (code_of t)) (is_in x (map code_of l))

-- the number of two bytes, as the library reads it
pub code-bytes : (s : List ℕ) → from_be_bytes w16 s ≡ code_of s
code-bytes s = omega arith

-- two bytes are a state where their number is a state's
pub state_of-code : (s : List ℕ) → length s ≡ 2 → get_or s 1 0 < 256 → is_state s ≡ is_state_code (code_of s)
unfolding is_state is_state_code state_codes
state_of-code s e h = one_of_codes s e h state_table states_pairs

-- what is not two bytes is not a state
pub state_other : (s : List ℕ) → (length s ≡ 2 → ⊥) → is_state s ≡ false
unfolding is_state
state_other s h = one_of_none s h state_table states_pairs

-- a state is two bytes
pub state_wide : (state : List ℕ) → is_state state ≡ true → length state ≡ 2
state_wide state t = go (eqb (length state) 2) refl
  where
    go : (b : Bool) → eqb (length state) 2 ≡ b → length state ≡ 2
    go true e = eqb-true (length state) 2 e
    go false e =
        let f : is_state state ≡ false = state_other state (eqb-false (length state) 2 e) in
        let z : ◌≡◌ {A = ℕ} 0 1 = cc in
        absurd (omega arith)

-- the first code of the table is a state's
pub first_code : is_state_code 0xC1D2 ≡ true
unfolding is_state_code state_codes state_table
first_code = refl
