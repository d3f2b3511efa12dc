-- Laws of a detail's code: names of one number are one name, and the code of a detail that gives a name says exactly which. Assumes nothing.
use Prim.Native.Nat.{ℕ, suc, ◌+◌, ◌*◌, ◌/◌, ◌%◌, ◌^◌, ◌≤◌, ◌<◌, suc-le-suc}
use mathlib.Core.Path.{◌≡◌, refl, sym, ap, ◌∙◌}
use mathlib.Core.Bool.{Bool, true, false, cond, ◌&&◌}
use mathlib.Core.List.{List, [], ◌∷◌, map}
use native.Mathlib.Nat.{zero-lt-suc}
use native.Mathlib.Omega.{arith}
use lib.Dec.{eqb}
use lib.ListN.{length, get_or, take, drop, length-drop}
use lib.Seq.{drop-drop, length-take-le}
use borrow.Author.Tests.{eqb-true, eqb-false, eq-eqb, ne_eqb}
use Rattle.text.specs.Fields.{same_bytes}
use Rattle.text.specs.ByteNumbers.{AreBytes, bytes_number}
use Rattle.text.proofs.BoolLaws.{either}
use Rattle.text.proofs.FieldsLaws.{part_of_front}
use Rattle.text.proofs.SameLaws.{eq_same, same_eq}
use Rattle.text.proofs.ByteNumberLaws.{bytes_take, bytes_drop, number_same}
use Rattle.judging.specs.Names.{gives_name}
use Rattle.judging.proofs.NamesLaws.{given_none, given_next}
use Rattle.keyorder.specs.Tagged.{index_part, record_of}
use Rattle.namemarks.specs.Marks.{name_at, rest_part, is_matched}
use Rattle.namemarks.specs.Codes.{name_code, has_giver}

-- ---- the name

-- it is cut out of the batch
pub name_in_lem : (batch : List ℕ) (i : ℕ) → name_at batch i ≡ take 4 (drop (i * 245 + 29) batch)
name_in_lem batch i = part_of_front 4 29 245 (drop (i * 245) batch) (omega arith) ∙ ap (take 4) (drop-drop 29 (i * 245) batch)

name_four : (batch : List ℕ) (i : ℕ) → i * 245 + 245 ≤ length batch → length (name_at batch i) ≡ 4
name_four batch i h =
    rw (name_in_lem batch i) (length-take-le 4 (drop (i * 245 + 29) batch) (rw length-drop (omega arith)))

name_bytes : (batch : List ℕ) (i : ℕ) → AreBytes batch → AreBytes (name_at batch i)
name_bytes batch i bytes =
    rw (name_in_lem batch i) (bytes_take 4 (drop (i * 245 + 29) batch) (bytes_drop (i * 245 + 29) batch bytes))

-- two names are one where their numbers are
same_name : (batch : List ℕ) (i j : ℕ) → AreBytes batch → i * 245 + 245 ≤ length batch → j * 245 + 245 ≤ length batch
    → eqb (bytes_number (name_at batch j)) (bytes_number (name_at batch i)) ≡ same_bytes (name_at batch i) (name_at batch j)
same_name batch i j bytes h k =
    go (eqb (bytes_number (name_at batch j)) (bytes_number (name_at batch i))) (same_bytes (name_at batch i) (name_at batch j)) refl refl
  where
    go : (a b : Bool) → eqb (bytes_number (name_at batch j)) (bytes_number (name_at batch i)) ≡ a
        → same_bytes (name_at batch i) (name_at batch j) ≡ b → a ≡ b
    go true true a b = refl
    go true false a b =
        let w = name_four batch i h ∙ sym (name_four batch j k) in
        let e = number_same (name_at batch i) (name_at batch j) w (name_bytes batch i bytes) (name_bytes batch j bytes) (sym (eqb-true _ _ a)) in
        sym (eq_same _ _ e) ∙ b
    go false true a b = absurd (eqb-false _ _ a (ap bytes_number (sym (same_eq _ _ b))))
    go false false a b = refl

-- ---- the code

pub bit_most : (t : Bool) (a b : ℕ) → a ≤ 1 → b ≤ 1 → cond t a b ≤ 1
bit_most t a b h k = either (λ (n : ℕ). n ≤ 1) t a b (λ e. h) k

-- the parts of a code
module _ (a g i : ℕ) (h : g ≤ 1) (k : i < 2 ^ 31) where
  above_index : (a * 2 ^ 32 + g * 2 ^ 31 + i) / 2 ^ 31 ≡ a * 2 + g
  above_index = omega arith

  above_gives : (a * 2 ^ 32 + g * 2 ^ 31 + i) / 2 ^ 32 ≡ a
  above_gives = omega arith

  index_alone : (a * 2 ^ 32 + g * 2 ^ 31 + i) % 2 ^ 31 ≡ i
  index_alone = omega arith

twice : (a b : ℕ) → eqb (a * 2 + 0) (b * 2) ≡ eqb a b
twice a b = go (eqb a b) refl
  where
    go : (t : Bool) → eqb a b ≡ t → eqb (a * 2 + 0) (b * 2) ≡ t
    go true t = eq-eqb (a * 2 + 0) (b * 2) (omega (arith, eqb-true a b t))
    go false t = ne_eqb (a * 2 + 0) (b * 2) (λ e. eqb-false a b t (omega arith))

module _ (state batch : List ℕ) where
  pub code_is : (n i name giving : ℕ) (gives : Bool) → i ≡ index_part n → name ≡ bytes_number (name_at batch i)
      → gives ≡ gives_name state (record_of batch n) → giving ≡ cond gives 0 1
      → name * 2 ^ 32 + giving * 2 ^ 31 + rest_part n ≡ name_code state batch n
  unfolding name_code
  code_is n i name giving gives e p q r = rw (p, r, q, e)

  pub code_index : (n : ℕ) → name_code state batch n % 2 ^ 31 ≡ rest_part n
  unfolding name_code
  code_index n =
      index_alone (bytes_number (name_at batch (index_part n))) (cond (gives_name state (record_of batch n)) 0 1) (rest_part n)
      (bit_most (gives_name state (record_of batch n)) 0 1 (omega arith) (omega arith)) (omega arith)

  -- the code of m says that it gives the name of n exactly where it does
  code_tells : (n m : ℕ) → AreBytes batch → index_part n * 245 + 245 ≤ length batch → index_part m * 245 + 245 ≤ length batch
      → eqb (name_code state batch m / 2 ^ 31) (name_code state batch n / 2 ^ 32 * 2)
      ≡ (gives_name state (record_of batch m) && same_bytes (name_at batch (index_part n)) (name_at batch (index_part m)))
  unfolding name_code
  code_tells n m bytes h k =
      rw (
        above_index (bytes_number (name_at batch (index_part m))) (cond (gives_name state (record_of batch m)) 0 1) (rest_part m)
            (bit_most (gives_name state (record_of batch m)) 0 1 (omega arith) (omega arith)) (omega arith),
        above_gives (bytes_number (name_at batch (index_part n))) (cond (gives_name state (record_of batch n)) 0 1) (rest_part n)
            (bit_most (gives_name state (record_of batch n)) 0 1 (omega arith) (omega arith)) (omega arith),
      )
      (go (gives_name state (record_of batch m)))
    where
      go : (t : Bool) → eqb (bytes_number (name_at batch (index_part m)) * 2 + cond t 0 1) (bytes_number (name_at batch (index_part n)) * 2)
          ≡ (t && same_bytes (name_at batch (index_part n)) (name_at batch (index_part m)))
      go true =
          twice (bytes_number (name_at batch (index_part m))) (bytes_number (name_at batch (index_part n)))
          ∙ same_name batch (index_part n) (index_part m) bytes h k
      go false =
          ne_eqb (bytes_number (name_at batch (index_part m)) * 2 + 1) (bytes_number (name_at batch (index_part n)) * 2) (λ e. omega arith)

  -- so the codes of all details say whether a name is matched
  pub codes_tell : (s : List ℕ) (n : ℕ) → AreBytes batch → ((q : ℕ) → q < length s → index_part (get_or s q 0) * 245 + 245 ≤ length batch) → index_part n * 245 + 245 ≤ length batch
      → has_giver (map (name_code state batch) s) (name_code state batch n) ≡ is_matched state batch s n
  unfolding has_giver
  codes_tell [] n bytes r h = sym (given_none state (record_of batch n))
  codes_tell (m ∷ s) n bytes r h =
      rw (code_tells n m bytes h (r 0 (zero-lt-suc (length s))), codes_tell s n bytes (λ q l. r (suc q) (suc-le-suc l)) h)
      (sym (given_next state (record_of batch n) (record_of batch m) (map (record_of batch) s)))
