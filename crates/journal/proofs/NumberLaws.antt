-- Laws of numbers in groups of seven bits: what is written is read again, only the shortest form is read, and how long it is.
-- Over any number. Assumes nothing.
use Prim.Native.Nat.{ℕ, zero, suc, ◌+◌, ◌-◌, ◌*◌, ◌/◌, ◌%◌, ◌^◌, ◌≤◌, ◌<◌}
use mathlib.Core.Path.{◌≡◌, refl, sym, ap, ◌∙◌}
use mathlib.Core.Bool.{Bool, true, false, cond}
use mathlib.Core.List.{List, [], ◌∷◌, ◌++◌}
use native.Mathlib.Nat.{not-suc-le-zero, pow-suc}
use native.Mathlib.Omega.{arith}
use lib.Dec.{ltb, eqb}
use lib.ListN.{length}
use borrow.Author.Tests.{ltb-true, ltb-false, lt-ltb, le-ltb, eqb-false, ne_eqb}
use Rattle.text.specs.ByteNumbers.{AreBytes}
use Rattle.journal.specs.Numbers.{groups, number_bytes, Read, unread, read, with_low_group, read_number}

groups_low : (most n : ℕ) → n < 128 → groups (suc most) n ≡ n ∷ []
unfolding groups
groups_low most n h = rw (lt-ltb n 128 h)

groups_high : (most n : ℕ) → 128 ≤ n → groups (suc most) n ≡ (128 + n % 128) ∷ groups most (n / 128)
unfolding groups
groups_high most n h = rw (le-ltb n 128 h)

-- more than enough groups are as good as enough
groups_same : (j k n : ℕ) → n < j → n < k → groups j n ≡ groups k n
groups_same zero k n a b = absurd (not-suc-le-zero a)
groups_same (suc j) zero n a b = absurd (not-suc-le-zero b)
groups_same (suc j) (suc k) n a b = go (ltb n 128) refl (λ x y. groups_same j k (n / 128) x y)
  where
    go : (t : Bool) → ltb n 128 ≡ t → (n / 128 < j → n / 128 < k → groups j (n / 128) ≡ groups k (n / 128)) → groups (suc j) n ≡ groups (suc k) n
    go true t ih = groups_low j n (ltb-true n 128 t) ∙ sym (groups_low k n (ltb-true n 128 t))
    go false t ih =
        let h = ltb-false n 128 t in
        groups_high j n h
        ∙ ap (λ (z : List ℕ). (128 + n % 128) ∷ z) (ih (omega arith) (omega arith))
        ∙ sym (groups_high k n h)

module _ (n : ℕ) where
  pub number_low : n < 128 → number_bytes n ≡ n ∷ []
  unfolding number_bytes
  number_low h = groups_low n n h

  pub number_high : 128 ≤ n → number_bytes n ≡ (128 + n % 128) ∷ number_bytes (n / 128)
  unfolding number_bytes
  number_high h =
      groups_high n n h ∙ ap (λ (z : List ℕ). (128 + n % 128) ∷ z) (groups_same n (suc (n / 128)) (n / 128) (omega arith) (omega arith))

-- ---- what is read

module _ (b : ℕ) (bs : List ℕ) where
  pub read_low : b < 128 → read_number (b ∷ bs) ≡ read b bs
  unfolding read_number
  read_low h = rw (lt-ltb b 128 h)

  pub read_high : 128 ≤ b → read_number (b ∷ bs) ≡ with_low_group (b - 128) (read_number bs)
  unfolding read_number
  read_high h = rw (le-ltb b 128 h)

pub read_none : read_number [] ≡ unread
unfolding read_number
read_none = refl

-- what is written is read again, whatever stands behind it
read-groups : (most n : ℕ) (behind : List ℕ) → n < most → read_number (groups most n ++ behind) ≡ read n behind
read-groups zero n behind h = absurd (not-suc-le-zero h)
read-groups (suc most) n behind h = go (ltb n 128) refl (λ x. read-groups most (n / 128) behind x)
  where
    go : (t : Bool) → ltb n 128 ≡ t → (n / 128 < most → read_number (groups most (n / 128) ++ behind) ≡ read (n / 128) behind)
        → read_number (groups (suc most) n ++ behind) ≡ read n behind
    go true t ih = rw (groups_low most n (ltb-true n 128 t)) (read_low n behind (ltb-true n 128 t))
    go false t ih =
        let l = ltb-false n 128 t in
        let z : eqb (n / 128) 0 ≡ false = ne_eqb (n / 128) 0 (λ e. omega arith) in
        let v : 128 + n % 128 - 128 + 128 * (n / 128) ≡ n = omega arith in
        rw (groups_high most n l)
        (read_high (128 + n % 128) (groups most (n / 128) ++ behind) (omega arith) ∙ rw (ih (omega arith), z, v))

pub read_number_lem : (n : ℕ) (behind : List ℕ) → read_number (number_bytes n ++ behind) ≡ read n behind
unfolding number_bytes
read_number_lem n behind = read-groups (suc n) n behind (omega arith)

-- only the shortest form is read
pub read_shortest : (bytes : List ℕ) → AreBytes bytes → (n : ℕ) (behind : List ℕ) → read_number bytes ≡ read n behind → bytes ≡ number_bytes n ++ behind
read_shortest [] a n behind e = let z : ◌≡◌ {A = ℕ} 0 1 = cc read_none in absurd (omega arith)
read_shortest (b ∷ bs) a n behind e =
    go (ltb b 128) refl (read_number bs) refl (λ m r f. read_shortest bs a.1 m r f)
  where
    more : (m : ℕ) (r : List ℕ) (t : Bool) → eqb m 0 ≡ t → 128 ≤ b → bs ≡ number_bytes m ++ r
        → cond t unread (read (b - 128 + 128 * m) r) ≡ read n behind → b ∷ bs ≡ number_bytes n ++ behind
    more m r true t h f g = let z : ◌≡◌ {A = ℕ} 0 1 = cc in absurd (omega arith)
    more m r false t h f g =
        let i = eqb-false m 0 t in
        let v : n ≡ b - 128 + 128 * m = cc in
        let w : r ≡ behind = cc in
        let u : b ≡ 128 + n % 128 = omega (arith, a.0) in
        let y : m ≡ n / 128 = omega (arith, a.0) in
        rw (number_high n (omega (arith, a.0))) (cc)

    go : (t : Bool) → ltb b 128 ≡ t → (q : Read) → read_number bs ≡ q
        → ((m : ℕ) (r : List ℕ) → read_number bs ≡ read m r → bs ≡ number_bytes m ++ r) → b ∷ bs ≡ number_bytes n ++ behind
    go true t q f ih =
        let l = ltb-true b 128 t in
        let g : read b bs ≡ read n behind = sym (read_low b bs l) ∙ e in
        let v : b ≡ n = cc in
        let w : bs ≡ behind = cc in
        rw (← v, number_low b l, w)
    go false t unread f ih =
        let g : with_low_group (b - 128) (read_number bs) ≡ read n behind = sym (read_high b bs (ltb-false b 128 t)) ∙ e in
        let z : ◌≡◌ {A = ℕ} 0 1 = (let y : unread ≡ read n behind = rw f at g in cc) in absurd (omega arith)
    go false t (read m r) f ih =
        let g : with_low_group (b - 128) (read_number bs) ≡ read n behind = sym (read_high b bs (ltb-false b 128 t)) ∙ e in
        more m r (eqb m 0) refl (ltb-false b 128 t) (ih m r f) (rw f at g)

-- a number below 128 to the power k + 1 has at most k + 1 groups
groups-length : (k most n : ℕ) → n < 128 ^ suc k → length (groups most n) ≤ suc k
unfolding groups
groups-length k zero n h = omega arith
groups-length zero (suc most) n h = rw (groups_low most n h) (omega arith)
groups-length (suc k) (suc most) n h = go (ltb n 128) refl (λ x. groups-length k most (n / 128) x)
  where
    go : (t : Bool) → ltb n 128 ≡ t → (n / 128 < 128 ^ suc k → length (groups most (n / 128)) ≤ suc k) → length (groups (suc most) n) ≤ suc (suc k)
    go true t ih = rw (groups_low most n (ltb-true n 128 t)) (omega arith)
    go false t ih =
        rw (groups_high most n (ltb-false n 128 t)) (omega (arith, ih (omega (arith, pow-suc 128 (suc k)))))

pub number-length : (k n : ℕ) → n < 128 ^ suc k → length (number_bytes n) ≤ suc k
unfolding number_bytes
number-length k n h = groups-length k (suc n) n h

-- what is behind a number is shorter
pub read_shorter : (bytes : List ℕ) (n : ℕ) (behind : List ℕ) → read_number bytes ≡ read n behind → length behind < length bytes
read_shorter [] n behind e = let z : ◌≡◌ {A = ℕ} 0 1 = cc read_none in absurd (omega arith)
read_shorter (b ∷ bs) n behind e = go (ltb b 128) refl (read_number bs) refl (λ m r f. read_shorter bs m r f)
  where
    more : (m : ℕ) (r : List ℕ) (t : Bool) → length r < length bs → cond t unread (read (b - 128 + 128 * m) r) ≡ read n behind
        → length behind < length (b ∷ bs)
    more m r true l g = let z : ◌≡◌ {A = ℕ} 0 1 = cc in absurd (omega arith)
    more m r false l g = let w : r ≡ behind = cc in rw (← w) (omega arith)

    go : (t : Bool) → ltb b 128 ≡ t → (q : Read) → read_number bs ≡ q
        → ((m : ℕ) (r : List ℕ) → read_number bs ≡ read m r → length r < length bs) → length behind < length (b ∷ bs)
    go true t q f ih =
        let g : read b bs ≡ read n behind = sym (read_low b bs (ltb-true b 128 t)) ∙ e in
        let w : bs ≡ behind = cc in
        rw (← w) (omega arith)
    go false t unread f ih =
        let g : with_low_group (b - 128) (read_number bs) ≡ read n behind = sym (read_high b bs (ltb-false b 128 t)) ∙ e in
        let z : ◌≡◌ {A = ℕ} 0 1 = (let y : unread ≡ read n behind = rw f at g in cc) in absurd (omega arith)
    go false t (read m r) f ih =
        let g : with_low_group (b - 128) (read_number bs) ≡ read n behind = sym (read_high b bs (ltb-false b 128 t)) ∙ e in
        more m r (eqb m 0) (ih m r f) (rw f at g)
