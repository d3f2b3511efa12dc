-- Laws of keys as two numbers, of the order of two keys, and of one pass over a list of keys: a key beside the next, and what is known of
-- all keys once the pass stands at one. Assumes nothing.
use Prim.Native.Nat.{ℕ, suc, ◌+◌, ◌*◌, ◌/◌, ◌≤◌, ◌<◌}
use mathlib.Core.Path.{◌≡◌, sym, ap, ◌∙◌}
use mathlib.Core.List.{List, []}
use mathlib.Core.Bool.{Bool, true, false, ◌&&◌, true≢false}
use native.Mathlib.Numerals.{add-one}
use native.Mathlib.Omega.{arith}
use lib.ListN.{length, take, drop, get_or, length-take, length-drop}
use Rattle.text.specs.Fields.{every}
use Rattle.text.specs.Blocks.{blocks}
use Rattle.text.specs.ByteNumbers.{AreBytes, bytes_number}
use Rattle.text.specs.ByteOrder.{less, equal, greater, order_of, is_less, rising}
use Rattle.text.proofs.BlocksLaws.{length-blocks, blocks_get, blocks-next, every_block_end}
use Rattle.text.proofs.ByteNumberLaws.{bytes_take, bytes_drop}
use Rattle.text.proofs.ByteOrderLaws.{Sides, below, level, above, sides, less_sides, order_refl, rising_step, rising-stop, rising_end}
use Rattle.layout.specs.StateCodes.{is_state_code}
use Rattle.layout.specs.Key.{is_sound_key}
use Rattle.layout.proofs.KeyLaws.{sound_state}
use Rattle.layout.proofs.KeyNumberLaws.{key_state}
use Rattle.casemaster.proofs.PassLaws.{twelve_front, twelve_back}

-- ---- a key as two numbers, those of its first eight bytes and of its last four

pub record AreNumbers (front back : ℕ) (key : List ℕ) : Type 0 where
  pub wide : length key ≡ 12
  pub bytes : AreBytes key
  pub front_is : front ≡ bytes_number (take 8 key)
  pub back_is : back ≡ bytes_number (take 4 (drop 8 key))

-- read in bytes that hold the key from k on
pub numbers_at : (s : List ℕ) (k front back : ℕ) → k + 12 ≤ length s → AreBytes s → front ≡ bytes_number (take 8 (drop k s))
    → back ≡ bytes_number (take 4 (drop (k + 8) s)) → AreNumbers front back (take 12 (drop k s))
numbers_at s k front back l b f g =
    record {
      wide = simp (length-take, length-drop) (omega arith);
      bytes = bytes_take 12 (drop k s) (bytes_drop k s b);
      front_is = f ∙ ap bytes_number (twelve_front k s);
      back_is = g ∙ ap bytes_number (twelve_back k s);
    }

-- the number of a sound key's state is a state's
pub known_state : (front back known : ℕ) (key : List ℕ) → AreNumbers front back key → is_sound_key key ≡ true
    → known ≡ front / 0x1000000000000 → is_state_code known ≡ true
known_state front back known key n t e = rw (e, n.front_is) (sym (key_state key n.wide n.bytes) ∙ sound_state key t)

-- ---- the order of two keys, by which of them is below the other

module _ (a b : List ℕ) where
  pub first_below : is_less (order_of a b) ≡ true → less ≡ order_of a b
  first_below h = sym (less_sides a b h).0

  pub second_below : is_less (order_of b a) ≡ true → greater ≡ order_of a b
  second_below h = sym (less_sides b a h).1

  pub neither_below : is_less (order_of a b) ≡ false → is_less (order_of b a) ≡ false → equal ≡ order_of a b
  unfolding is_less
  neither_below h g = go (sides a b)
    where
      go : Sides a b → equal ≡ order_of a b
      go (below o u) = absurd (true≢false (rw o at h))
      go (level e) = sym (rw e (order_refl b))
      go (above o u) = absurd (true≢false (rw u at g))

-- ---- one pass over n keys

-- the key at i
abbrev pub key_in_list : List ℕ → ℕ → List ℕ
key_in_list keys i = take 12 (drop (i * 12) keys)

-- no key at all
pub no_keys : (n : ℕ) (keys : List ℕ) → n < 1 → (every is_sound_key (blocks 12 n keys) && rising (blocks 12 n keys)) ≡ true
no_keys n keys l =
    rw (every_block_end 12 is_sound_key n keys 0 (omega arith)) (rising_end (blocks 12 n keys) 0 (rw (length-blocks 12 n keys) (omega arith)))

module _ (n : ℕ) (keys : List ℕ) (i : ℕ) (l : i < n) where
  -- the key at i fails
  pub key_fails : is_sound_key (key_in_list keys i) ≡ false → every is_sound_key (drop i (blocks 12 n keys)) ≡ false
  key_fails t = rw (blocks-next 12 n keys i l, t)

  -- it passes
  pub key_passes : is_sound_key (key_in_list keys i) ≡ true → every is_sound_key (drop (i + 1) (blocks 12 n keys)) ≡ every is_sound_key (drop i (blocks 12 n keys))
  key_passes t = sym (rw (blocks-next 12 n keys i l, t))

-- all keys passed, of which the last stands at i
pub all_passed : (n : ℕ) (keys : List ℕ) (i : ℕ) → n ≤ i + 1
    → (every is_sound_key (drop (i + 1) (blocks 12 n keys)) ≡ true) × (rising (drop i (blocks 12 n keys)) ≡ true)
all_passed n keys i l = (
  every_block_end 12 is_sound_key n keys (i + 1) l,
  rising_end (blocks 12 n keys) i (rw (length-blocks 12 n keys) (omega arith)),
)

-- the key at i passes and is the last
pub last-passes : (n : ℕ) (keys : List ℕ) (i : ℕ) → i < n → is_sound_key (key_in_list keys i) ≡ true → i + 1 ≡ n
    → (every is_sound_key (drop i (blocks 12 n keys)) && rising (drop i (blocks 12 n keys))) ≡ true
last-passes n keys i l t e =
    let p = all_passed n keys i (omega arith) in
    rw (← key_passes n keys i l t, p.0) p.1

module _ (n : ℕ) (keys : List ℕ) (i : ℕ) (l : i + 1 < n) where
  abbrev here : List ℕ
  here = get_or (blocks 12 n keys) i []

  abbrev next : List ℕ
  next = get_or (blocks 12 n keys) (suc i) []

  neighbours : (b : Bool) → b ≡ is_less (order_of (key_in_list keys i) (key_in_list keys (i + 1))) → is_less (order_of here next) ≡ b
  neighbours b e = rw (blocks_get 12 n keys i (omega arith), blocks_get 12 n keys (suc i) (omega arith)) (sym (rw (add-one i) at e))

  inside : suc i < length (blocks 12 n keys)
  inside = rw (length-blocks 12 n keys) (omega arith)

  -- the key at i is not below the next
  pub order_fails : (b : Bool) → b ≡ is_less (order_of (key_in_list keys i) (key_in_list keys (i + 1))) → b ≡ false → rising (drop i (blocks 12 n keys)) ≡ false
  order_fails b e t = rising-stop (blocks 12 n keys) i inside (neighbours b e ∙ t)

  -- it is
  pub order_passes : (b : Bool) → b ≡ is_less (order_of (key_in_list keys i) (key_in_list keys (i + 1))) → b ≡ true
      → rising (drop (i + 1) (blocks 12 n keys)) ≡ rising (drop i (blocks 12 n keys))
  order_passes b e t = rw (add-one i) (rising_step (blocks 12 n keys) i inside (neighbours b e ∙ t))
