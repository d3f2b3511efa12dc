-- Laws of ranks: the sound keys of one state rank below all others, one key a rank, and in byte order. Assumes nothing.
use mathlib.Core.Path.{◌≡◌, refl, sym, ap, ◌∙◌}
use mathlib.Core.Bool.{Bool, true, false, not, cond, ◌&&◌, ◌||◌, false≢true}
use mathlib.Core.List.{List, [], ◌∷◌, ◌++◌, append_assoc}
use Prim.Native.Nat.{ℕ, zero, suc, ◌+◌, ◌*◌, ◌/◌, ◌%◌, ◌^◌, ◌≤◌, ◌<◌}
use native.Mathlib.Omega.{arith}
use lib.Dec.{eqb}
use lib.ListN.{length, take, drop, get_or, take-append-drop, drop_of_length-le}
use lib.Seq.{drop-cons, drop-drop}
use borrow.Author.Tests.{eqb-true, not-true, not-false}
use Rattle.text.specs.Characters.{A, N}
use Rattle.text.specs.Fields.{columns, same_bytes, are_digits, is_zero, number, digit_field, placed}
use Rattle.text.proofs.ColumnsWritten.{written_none, written-field, written_digits, written_all}
use Rattle.layout.specs.States.{is_state}
use Rattle.layout.specs.Ssn.{wrong_ssn}
use Rattle.layout.specs.Key.{is_case_type, is_sound_key, is_own_key}
use Rattle.text.proofs.FieldsLaws.{and_left, and_right, digits_width, digits_all}
use Rattle.text.proofs.NumberLaws.{number_below, length_digits, digits_digits, number_digits}
use Rattle.text.proofs.SameLaws.{same_eq}
use Rattle.layout.proofs.KeyLaws.{sound_length}
use Rattle.text.proofs.BoolLaws.{or_left}
use Rattle.keyorder.specs.Order.{rank_of, key_of_rank}
use Rattle.keyorder.proofs.DigitOrder.{Stand, below, level, above, digits_stand}
use Rattle.text.specs.ByteOrder.{less, order_of}
use Rattle.text.proofs.ByteOrderLaws.{order_lt, order_front}

-- ---- what a sound key of a state is

ssn_digits : (s : List ℕ) → wrong_ssn s ≡ false → are_digits 9 s ≡ true
unfolding wrong_ssn
ssn_digits s h = not-false (are_digits 9 s) (or_left (not (are_digits 9 s)) (is_zero s) (or_left (not (are_digits 9 s) || is_zero s) _ h))

pub record Own (state key : List ℕ) : Type 0 where
  pub width : length key ≡ 12
  pub digits : are_digits 9 (columns 3 11 key) ≡ true
  pub type : is_case_type (get_or key 11 0) ≡ true
  pub same : columns 1 2 key ≡ state

module _ (state key : List ℕ) where
  pub own_parts : is_own_key state key ≡ true → Own state key
  unfolding is_own_key is_sound_key
  own_parts h =
      let st = is_state (columns 1 2 key) in
      let w = not (wrong_ssn (columns 3 11 key)) in
      let t = is_case_type (get_or key 11 0) in
      let s = and_left (is_sound_key key) (same_bytes (columns 1 2 key) state) h in
      let r = and_right st (w && t) (and_right (eqb (length key) 12) (st && (w && t)) s) in
      record {
        width = sound_length key s;
        digits = ssn_digits (columns 3 11 key) (not-true (wrong_ssn (columns 3 11 key)) (and_left w t r));
        type = and_right w t r;
        same = same_eq (columns 1 2 key) state (and_right (is_sound_key key) (same_bytes (columns 1 2 key) state) h);
      }

-- ---- a rank's parts

abbrev ssn : List ℕ → List ℕ
ssn key = columns 3 11 key

-- the case type's part: A before N
abbrev pub type_rank : ℕ → ℕ
type_rank b = cond (eqb b N) 1 0

pub type_most : (b : ℕ) → type_rank b ≤ 1
type_most b = go (eqb b N)
  where
    go : (t : Bool) → cond t 1 0 ≤ 1
    go true = omega arith
    go false = omega arith

-- by its part the case type is A or N
type_low : (b : ℕ) → is_case_type b ≡ true → type_rank b ≡ 0 → b ≡ A
unfolding is_case_type
type_low b h z = go (eqb b A) (eqb b N) refl h z
  where
    go : (s t : Bool) → eqb b A ≡ s → (s || t) ≡ true → ◌≡◌ {A = ℕ} (cond t 1 0) 0 → b ≡ A
    go true t e h z = eqb-true b A e
    go false true e h z = absurd (omega arith)
    go false false e h z = absurd (false≢true h)

type_high : (b : ℕ) → type_rank b ≡ 1 → b ≡ N
type_high b z = go (eqb b N) refl z
  where
    go : (t : Bool) → eqb b N ≡ t → ◌≡◌ {A = ℕ} (cond t 1 0) 1 → b ≡ N
    go true e z = eqb-true b N e
    go false e z = absurd (omega arith)

-- and it is again
type_back : (b : ℕ) → is_case_type b ≡ true → cond (eqb (type_rank b) 1) N A ≡ b
type_back b h = go (eqb b N) refl
  where
    go : (t : Bool) → eqb b N ≡ t → cond (eqb (cond t 1 0) 1) N A ≡ b
    go true e = sym (eqb-true b N e)
    go false e = sym (type_low b h (ap (λ (z : Bool). cond {A = ℕ} z 1 0) e))

-- a key of twelve bytes in its parts
key_parts : (key : List ℕ) → length key ≡ 12 → key ≡ columns 1 2 key ++ (ssn key ++ (get_or key 11 0 ∷ []))
key_parts key w =
    let l : 11 < length key = omega arith in
    let m : length key ≤ 12 = omega arith in
    let e : drop 9 (drop 2 key) ≡ get_or key 11 0 ∷ [] =
    drop-drop 9 2 key ∙ drop-cons key 11 0 l ∙ ap (λ (z : List ℕ). get_or key 11 0 ∷ z) (drop_of_length-le key {i = 12} m) in
    sym (take-append-drop 2 key)
    ∙ ap (λ (z : List ℕ). take 2 key ++ z) (sym (take-append-drop 9 (drop 2 key)) ∙ ap (λ (z : List ℕ). take 9 (drop 2 key) ++ z) e)

module _ (state key : List ℕ) where
  pub own_rank : is_own_key state key ≡ true → rank_of state key ≡ number (columns 3 11 key) * 2 + cond (eqb (get_or key 11 0) N) 1 0
  unfolding rank_of
  own_rank h = rw h

  -- any other key comes behind them all
  pub other_rank : is_own_key state key ≡ false → rank_of state key ≡ 2 ^ 31
  unfolding rank_of
  other_rank h = rw h

  pub ssn_below : is_own_key state key ≡ true → number (columns 3 11 key) < 10 ^ 9
  ssn_below h =
      let o = own_parts state key h in
      rw (digits_width 9 (ssn key) o.digits) at (number_below (ssn key) (digits_all 9 (ssn key) o.digits))

  pub own_below : is_own_key state key ≡ true → rank_of state key < 2 ^ 31
  own_below h = omega (arith, own_rank h, ssn_below h, type_most (get_or key 11 0))

  pub below_own : rank_of state key < 2 ^ 31 → is_own_key state key ≡ true
  below_own l = go (is_own_key state key) refl
    where
      go : (t : Bool) → is_own_key state key ≡ t → t ≡ true
      go true e = refl
      go false e = absurd (omega (arith, other_rank e))

  pub rank_most : rank_of state key ≤ 2 ^ 31
  rank_most = go (is_own_key state key) refl
    where
      go : (t : Bool) → is_own_key state key ≡ t → rank_of state key ≤ 2 ^ 31
      go true e = omega (arith, own_below e)
      go false e = omega (arith, other_rank e)

-- ---- two sound keys of one state

module _ (state k l : List ℕ) (hk : is_own_key state k ≡ true) (hl : is_own_key state l ≡ true) where
  ok : Own state k
  ok = own_parts state k hk

  ol : Own state l
  ol = own_parts state l hl

  abbrev tk : ℕ
  tk = get_or k 11 0

  abbrev tl : ℕ
  tl = get_or l 11 0

  -- the keys from their parts
  whole_k : k ≡ state ++ (ssn k ++ (tk ∷ []))
  whole_k = key_parts k ok.width ∙ ap (λ (z : List ℕ). z ++ (ssn k ++ (tk ∷ []))) ok.same

  whole_l : l ≡ state ++ (ssn l ++ (tl ∷ []))
  whole_l = key_parts l ol.width ∙ ap (λ (z : List ℕ). z ++ (ssn l ++ (tl ∷ []))) ol.same

  stands : Stand 0 (ssn k) (ssn l)
  stands =
      digits_stand (ssn k) (ssn l) (digits_width 9 (ssn k) ok.digits ∙ sym (digits_width 9 (ssn l) ol.digits))
      (digits_all 9 (ssn k) ok.digits) (digits_all 9 (ssn l) ol.digits)

  -- one rank, one key
  types : (a : ℕ) → type_rank tk ≡ a → type_rank tl ≡ a → a ≤ 1 → tk ≡ tl
  types zero p q h = type_low tk ok.type p ∙ sym (type_low tl ol.type q)
  types (suc zero) p q h = type_high tk p ∙ sym (type_high tl q)
  types (suc (suc a)) p q h = absurd (omega arith)

  pub rank_same : rank_of state k ≡ rank_of state l → k ≡ l
  unfolding number
  rank_same e = go stands (own_rank state k hk) (own_rank state l hl) (type_most tk) (type_most tl)
    where
      go : Stand 0 (ssn k) (ssn l) → rank_of state k ≡ number (ssn k) * 2 + type_rank tk → rank_of state l ≡ number (ssn l) * 2 + type_rank tl
          → type_rank tk ≤ 1 → type_rank tl ≤ 1 → k ≡ l
      go (below h o) ek el mk ml = absurd (omega arith)
      go (level p) ek el mk ml =
          let r : number (ssn k) ≡ number (ssn l) = ap number p in
          let t : tk ≡ tl = types (type_rank tk) refl (omega arith) mk in
          whole_k ∙ (rw (p, t) (sym whole_l))
      go (above h) ek el mk ml = absurd (omega arith)

  -- a lesser rank, a lesser key
  pub rank_less : rank_of state k < rank_of state l → order_of k l ≡ less
  unfolding number
  rank_less e =
      ap (λ (z : List ℕ). order_of z l) whole_k
      ∙ ap (order_of (state ++ (ssn k ++ (tk ∷ [])))) whole_l
      ∙ order_front state (ssn k ++ (tk ∷ [])) (ssn l ++ (tl ∷ []))
      ∙ go stands (own_rank state k hk) (own_rank state l hl) (type_most tk) (type_most tl)
    where
      go : Stand 0 (ssn k) (ssn l) → rank_of state k ≡ number (ssn k) * 2 + type_rank tk → rank_of state l ≡ number (ssn l) * 2 + type_rank tl
          → type_rank tk ≤ 1 → type_rank tl ≤ 1 → order_of (ssn k ++ (tk ∷ [])) (ssn l ++ (tl ∷ [])) ≡ less
      go (below h o) ek el mk ml = o (tk ∷ []) (tl ∷ [])
      go (level p) ek el mk ml =
          let r : number (ssn k) ≡ number (ssn l) = ap number p in
          let a : tk ≡ A = type_low tk ok.type (omega arith) in
          let b : tl ≡ N = type_high tl (omega arith) in
          rw p (order_front (ssn l) (tk ∷ []) (tl ∷ []) ∙ order_lt tk tl [] [] (omega arith))
      go (above h) ek el mk ml = absurd (omega arith)

-- ---- the key of a rank

-- nine digits are those of their number
digits_back : (s : List ℕ) → are_digits 9 s ≡ true → digit_field 9 (number s) ≡ s
unfolding number
digits_back s h =
    let w = digits_width 9 s h in
    let d = digits_all 9 s h in
    go (digits_stand (digit_field 9 (number s)) s (length_digits 9 (number s) ∙ sym w) (digits_digits 9 (number s)) d)
    (number_digits 9 (number s) (rw w at (number_below s d)))
  where
    go : Stand 0 (digit_field 9 (number s)) s → number (digit_field 9 (number s)) ≡ number s → digit_field 9 (number s) ≡ s
    go (below h o) e = absurd (omega arith)
    go (level p) e = p
    go (above h) e = absurd (omega arith)

-- a sound key of the state is the key of its rank
pub key_of_rank_lem : (state key : List ℕ) → is_own_key state key ≡ true → key_of_rank state (rank_of state key) ≡ key
unfolding key_of_rank
key_of_rank_lem state key h =
    let o = own_parts state key h in
    let r = own_rank state key h in
    let t = get_or key 11 0 in
    let m = type_most t in
    let a : rank_of state key / 2 ≡ number (ssn key) = omega (arith, r, m) in
    let b : rank_of state key % 2 ≡ type_rank t = omega (arith, r, m) in
    rw (a, b, digits_back (ssn key) o.digits, type_back t o.type)
    (sym (key_parts key o.width ∙ ap (λ (z : List ℕ). z ++ (ssn key ++ (t ∷ []))) o.same))

-- its parts written one behind the other are it
pub key_written : (state : List ℕ) (x t : ℕ) → length state ≡ 2 → (s a b c : List ℕ) → length s ≡ 12
    → a ≡ placed 1 2 state s → b ≡ placed 3 11 (digit_field 9 x) a → c ≡ placed 12 12 (t ∷ []) b
    → c ≡ state ++ (digit_field 9 x ++ (t ∷ []))
key_written state x t two s a b c w ea eb ec =
    let w1 = written-field (written_none s) 1 2 state ea refl (omega arith) (omega arith) in
    let w2 = written_digits w1 3 11 9 x eb refl refl (omega arith) in
    let w3 = written-field w2 12 12 (t ∷ []) ec refl refl (omega arith) in
    written_all w3 (sym w) ∙ append_assoc state (digit_field 9 x) (t ∷ [])
