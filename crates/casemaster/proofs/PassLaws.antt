-- Laws of one pass over a master's rows: the two numbers of a row's key, wherever they are read; a row beside the one before it; and what
-- is known of all rows once the pass stands at one. Assumes nothing.
use Prim.Native.Nat.{ℕ, zero, suc, ◌+◌, ◌-◌, ◌*◌, ◌/◌, ◌≤◌, ◌<◌}
use mathlib.Core.Path.{◌≡◌, refl, sym, ap, ◌∙◌}
use mathlib.Core.List.{List, [], ◌∷◌}
use mathlib.Core.Bool.{Bool, true, false, ◌&&◌}
use native.Mathlib.Omega.{arith}
use lib.Dec.{lit≤}
use lib.ListN.{length, get_or, take, drop, length-drop}
use lib.Seq.{take-take, drop-drop, length-take-le}
use Rattle.std.proofs.lemmas.List.{get_or_default, get_or-take, get_or-drop}
use Rattle.std.specs.Simd.{first_chunks}
use Rattle.text.specs.Blocks.{blocks}
use Rattle.text.specs.Fields.{every}
use Rattle.text.specs.ByteOrder.{order_of, is_less, rising}
use Rattle.text.specs.ByteNumbers.{AreBytes, bytes_number}
use Rattle.text.proofs.FieldsLaws.{and_left, part_of_front}
use Rattle.text.proofs.ByteNumberLaws.{bytes_take}
use Rattle.text.proofs.BlocksLaws.{blocks_get, blocks-next, length-blocks, every_block_end}
use Rattle.text.proofs.ByteOrderLaws.{Says, pass_on, pass_stop, pass_end}
use Rattle.layout.specs.StateCodes.{is_state_code}
use Rattle.layout.specs.Key.{is_sound_key}
use Rattle.layout.proofs.KeyLaws.{sound_state}
use Rattle.layout.proofs.KeyNumberLaws.{key_state}
use Rattle.casemaster.specs.declared.row.Form.{Form}
use Rattle.casemaster.specs.Forms.{is_end_sound_in, is_sound_in}
use Rattle.casemaster.specs.Row.{row_key, are_fields_sound}
use Rattle.casemaster.specs.Master.{rows_of, keys_of, row_in}

-- ---- rows as arrays of the master

chunks : (n : ℕ) (m : List ℕ) → first_chunks 200 n m ≡ rows_of n m
unfolding blocks
chunks zero m = refl
chunks (suc n) m = ap (λ (z : List (List ℕ)). take 200 m ∷ z) (chunks n (drop 200 m))

-- the array at a place is the row
pub chunk_at : (m : List ℕ) (p : ℕ) (d : List ℕ) → p * 200 + 200 ≤ length m → get_or (first_chunks 200 (length m / 200) m) p d ≡ row_in m p
chunk_at m p d h =
    let n = length m / 200 in
    rw (chunks n m) (get_or_default (rows_of n m) p d [] (rw (length-blocks 200 n m) (omega arith)) ∙ blocks_get 200 n m p (omega arith))

-- so is one of a part of them
module _ (m : List ℕ) (all : List (List ℕ)) (e : all ≡ first_chunks 200 (length m / 200) m) (a b : ℕ) (h : b * 200 ≤ length m) where
  pub chunk_in : (k : ℕ) (d : List ℕ) → a + k < b → get_or (take (b - a) (drop a all)) k d ≡ row_in m (a + k)
  chunk_in k d l =
      get_or-take (b - a) (drop a all) k d (omega arith)
      ∙ get_or-drop a all k d
      ∙ ap (λ (z : List (List ℕ)). get_or z (a + k) d) e
      ∙ chunk_at m (a + k) d (omega arith)

  pub length-chunks : length (take (b - a) (drop a all)) ≡ b - a
  length-chunks =
      let w : length all ≡ length m / 200 = ap length e ∙ ap length (chunks (length m / 200) m) ∙ length-blocks 200 (length m / 200) m in
      length-take-le (b - a) (drop a all) (rw (length-drop a all) (omega arith))

-- ---- the two numbers of a key

-- of a row's key, read in the row
pub key_front : (row : List ℕ) → take 8 row ≡ take 8 (row_key row)
key_front row = sym (take-take 8 12 row (lit≤ tt))

pub key_back : (row : List ℕ) → take 4 (drop 8 row) ≡ take 4 (drop 8 (row_key row))
key_back row = sym (part_of_front 4 8 12 row (lit≤ tt))

-- twelve bytes read in the master
pub twelve_front : (k : ℕ) (m : List ℕ) → take 8 (drop k m) ≡ take 8 (take 12 (drop k m))
twelve_front k m = sym (take-take 8 12 (drop k m) (lit≤ tt))

pub twelve_back : (k : ℕ) (m : List ℕ) → take 4 (drop (k + 8) m) ≡ take 4 (drop 8 (take 12 (drop k m)))
twelve_back k m = ap (take 4) (sym (drop-drop 8 k m)) ∙ sym (part_of_front 4 8 12 (drop k m) (lit≤ tt))

-- the same, read in the row
pub cut_front : (k : ℕ) (m : List ℕ) → take 8 (take 200 (drop k m)) ≡ take 8 (take 12 (drop k m))
cut_front k m = take-take 8 200 (drop k m) (lit≤ tt) ∙ twelve_front k m

pub cut_back : (k : ℕ) (m : List ℕ) → take 4 (drop 8 (take 200 (drop k m))) ≡ take 4 (drop 8 (take 12 (drop k m)))
cut_back k m = part_of_front 4 8 200 (drop k m) (lit≤ tt) ∙ sym (part_of_front 4 8 12 (drop k m) (lit≤ tt))

-- the number of a sound row's state is a state's
pub row_state_lem : (form : Form) (row : List ℕ) → length row ≡ 200 → AreBytes row → is_sound_in form row ≡ true
    → is_state_code (bytes_number (take 8 row) / 0x1000000000000) ≡ true
unfolding is_sound_in
row_state_lem form row w b t =
    let k = and_left (is_sound_key (row_key row)) (are_fields_sound row && is_end_sound_in form row) t in
    rw (key_front row)
    (sym (key_state (row_key row) (length-take-le 12 row (omega arith)) (bytes_take 12 row b)) ∙ sound_state (row_key row) k)

-- ---- a row beside the next

-- b says whether the key of the row at i is below that of the next
abbrev pub IsBelowNext : ℕ → List ℕ → Bool → Type 0
IsBelowNext i m b = b ≡ is_less (order_of (take 12 (drop (i * 200) m)) (take 12 (drop (i * 200 + 200) m)))

says : (i : ℕ) (m : List ℕ) (b : Bool) → IsBelowNext i m b → Says m 12 ((i + 1 - 1) * 200) ((i + 1) * 200) b
says i m b e =
    let t : i + 1 - 1 ≡ i = omega arith in
    let u : i * 200 + 12 - i * 200 ≡ 12 = omega arith in
    let v : (i + 1) * 200 ≡ i * 200 + 200 = omega arith in
    let w : i * 200 + 200 + 12 - (i * 200 + 200) ≡ 12 = omega arith in
    rw (t, u, v, w) e

-- ---- all rows, from the one at i on

module _ (f : List ℕ → Bool) (n : ℕ) (m : List ℕ) (i : ℕ) (l : i < n) where
  -- the row at i fails
  pub row_fails : f (row_in m i) ≡ false → every f (drop i (rows_of n m)) ≡ false
  row_fails t = rw (blocks-next 200 n m i l, t)

  -- it passes
  pub row-passes : f (row_in m i) ≡ true → every f (drop (i + 1) (rows_of n m)) ≡ every f (drop i (rows_of n m))
  row-passes t = rw (blocks-next 200 n m i l, t)

-- no row is left behind the last
pub all_passed : (f : List ℕ → Bool) (n : ℕ) (m : List ℕ) (i : ℕ) → n ≤ i + 1
    → (every f (drop (i + 1) (rows_of n m)) && rising (drop i (keys_of (rows_of n m)))) ≡ true
unfolding keys_of
all_passed f n m i h =
    let z : i + 1 - 1 ≡ i = omega arith in
    let r = pass_end 12 200 n m (i + 1) h in
    rw (every_block_end 200 f n m (i + 1) h) (rw z at r)

-- the row at i passes and is the last
pub last-passes : (f : List ℕ → Bool) (n : ℕ) (m : List ℕ) (i : ℕ) → i < n → f (row_in m i) ≡ true → i + 1 ≡ n
    → (every f (drop i (rows_of n m)) && rising (drop i (keys_of (rows_of n m)))) ≡ true
last-passes f n m i l t e = rw (← row-passes f n m i l t) (all_passed f n m i (omega arith))

module _ (n : ℕ) (m : List ℕ) (i : ℕ) (l : i + 1 < n) (b : Bool) (e : IsBelowNext i m b) where
  -- its key is not below that of the next
  pub order_fails : b ≡ false → rising (drop i (keys_of (rows_of n m))) ≡ false
  unfolding keys_of
  order_fails t =
      let z : i + 1 - 1 ≡ i = omega arith in
      let r = pass_stop 12 200 n m (lit≤ tt) b (i + 1) (omega arith) l (says i m b e) t in
      rw z at r

  -- it is
  pub order_passes : b ≡ true → rising (drop (i + 1) (keys_of (rows_of n m))) ≡ rising (drop i (keys_of (rows_of n m)))
  unfolding keys_of
  order_passes t =
      let z : i + 1 - 1 ≡ i = omega arith in
      let y : i + 1 + 1 - 1 ≡ i + 1 = omega arith in
      let r = pass_on 12 200 n m (lit≤ tt) b (i + 1) (omega arith) l (says i m b e) t in
      rw (y, z) at r
