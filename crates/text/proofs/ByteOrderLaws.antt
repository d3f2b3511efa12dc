-- Laws of byte order, of keys that rise in it, and of a block put in its place. Assumes nothing.
use mathlib.Core.Path.{◌≡◌, refl, sym, ap, ◌∙◌}
use mathlib.Core.Logic.{◌⊎◌, ◌≢◌, inl, inr}
use mathlib.Core.Bool.{Bool, true, false, cond, false≢true}
use mathlib.Core.List.{List, [], ◌∷◌, ◌++◌, map}
use Prim.Native.Nat.{ℕ, zero, suc, ◌+◌, ◌-◌, ◌*◌, ◌≤◌, ◌<◌}
use native.Mathlib.Nat.{not-suc-le-zero, le_of_suc-le-suc}
use native.Mathlib.Numerals.{add-one}
use native.Mathlib.Omega.{arith}
use lib.Dec.{eqb, ltb}
use lib.ListN.{length, take, drop, get_or, length-map, get_or-map, drop_of_length-le}
use lib.Seq.{drop-cons, take-take, take-nil}
use borrow.Author.Tests.{lt-ltb, le-ltb, ltb-true, ltb-false, eq-eqb, ne_eqb}
use Rattle.text.specs.Blocks.{blocks}
use Rattle.text.specs.Fields.{same_bytes}
use Rattle.std.specs.Ordering.{nat_cmp, is_lt, ordering_then}
use Rattle.std.specs.declared.cmp.Ordering.TheVariants.{Less, Equal, Greater}
use Rattle.std.specs.Cmp.Lexicographic.{slice_cmp}
use Rattle.text.specs.ByteOrder.{order_in, less, equal, greater, order_of, is_less, is_equal, below_first, rising, with_block}
use Rattle.text.proofs.BlocksLaws.{blocks_get, length-blocks}
use Rattle.text.proofs.FieldsLaws.{and_left, and_right}

-- ---- the order: the first byte that differs decides

module _ (x y : ℕ) (xs ys : List ℕ) where
  pub order_lt : x < y → order_of (x ∷ xs) (y ∷ ys) ≡ less
  unfolding order_of
  order_lt h = rw (lt-ltb x y h)

  pub order_gt : y < x → order_of (x ∷ xs) (y ∷ ys) ≡ greater
  unfolding order_of
  order_gt h = rw (le-ltb x y (omega arith), lt-ltb y x h)

  pub order_eq : x ≡ y → order_of (x ∷ xs) (y ∷ ys) ≡ order_of xs ys
  unfolding order_of
  order_eq e = rw (le-ltb x y (omega arith), le-ltb y x (omega arith))

-- by the two heads: below, above or the same
pub data Heads (x y : ℕ) : Type 0 where
  lower : x < y → Heads x y
  upper : y < x → Heads x y
  same : x ≡ y → Heads x y

pub heads : (x y : ℕ) → Heads x y
heads x y = go (ltb x y) (ltb y x) refl refl
  where
    go : (a b : Bool) → ltb x y ≡ a → ltb y x ≡ b → Heads x y
    go true b e f = lower (ltb-true x y e)
    go false true e f = upper (ltb-true y x f)
    go false false e f = same (omega (arith, ltb-false x y e, ltb-false y x f))

-- what stands in front of both leaves their order
pub order_front : (p s t : List ℕ) → order_of (p ++ s) (p ++ t) ≡ order_of s t
order_front [] s t = refl
order_front (x ∷ p) s t = order_eq x x (p ++ s) (p ++ t) refl ∙ order_front p s t

-- two keys of one length, from byte i on
module _ (a b : List ℕ) (e : length a ≡ length b) (i : ℕ) where
  order_step : i < length a → order_of (drop i a) (drop i b) ≡ order_of (get_or a i 0 ∷ drop (i + 1) a) (get_or b i 0 ∷ drop (i + 1) b)
  order_step h = rw (drop-cons a i 0 h, drop-cons b i 0 (omega arith), add-one i)

  pub order_differs : i < length a → (get_or a i 0 ≢ get_or b i 0)
      → order_of (drop i a) (drop i b) ≡ order_in (nat_cmp (get_or a i 0) (get_or b i 0))
  order_differs h n = order_step h ∙ go (heads (get_or a i 0) (get_or b i 0))
    where
      x : ℕ
      x = get_or a i 0

      y : ℕ
      y = get_or b i 0

      xs : List ℕ
      xs = drop (i + 1) a

      ys : List ℕ
      ys = drop (i + 1) b

      go : Heads x y → order_of (x ∷ xs) (y ∷ ys) ≡ order_in (nat_cmp x y)
      go (lower p) = order_lt x y xs ys p ∙ rw (lt-ltb x y p)
      go (upper p) = order_gt x y xs ys p ∙ rw (le-ltb x y (omega arith), ne_eqb x y n)
      go (same p) = absurd (n p)

  pub order_same : i < length a → get_or a i 0 ≡ get_or b i 0 → order_of (drop i a) (drop i b) ≡ order_of (drop (i + 1) a) (drop (i + 1) b)
  order_same h l = order_step h ∙ order_eq (get_or a i 0) (get_or b i 0) (drop (i + 1) a) (drop (i + 1) b) l

  pub order_end : length a ≤ i → order_of (drop i a) (drop i b) ≡ equal
  unfolding order_of
  order_end h = rw (drop_of_length-le a h, drop_of_length-le b {i = i} (omega arith))

pub order_refl : (a : List ℕ) → order_of a a ≡ equal
unfolding order_of
order_refl [] = refl
order_refl (x ∷ xs) = order_eq x x xs xs refl ∙ order_refl xs

-- equal keys are the same bytes
pub equal_same : (a b : List ℕ) → is_equal (order_of a b) ≡ true → a ≡ b
unfolding order_of is_equal
equal_same [] [] h = refl
equal_same [] (y ∷ ys) h = cc
equal_same (x ∷ xs) [] h = cc
equal_same (x ∷ xs) (y ∷ ys) h = go (equal_same xs ys) (heads x y)
  where
    go : (is_equal (order_of xs ys) ≡ true → xs ≡ ys) → Heads x y → x ∷ xs ≡ y ∷ ys
    go ih (lower p) = let z : false ≡ true = rw (order_lt x y xs ys p) at h in cc
    go ih (upper p) = let z : false ≡ true = rw (order_gt x y xs ys p) at h in cc
    go ih (same p) = let t : xs ≡ ys = ih (rw (order_eq x y xs ys p) at h) in cc

abbrev Lt : List ℕ → List ℕ → Type 0
Lt a b = is_less (order_of a b) ≡ true

module _ (x y : ℕ) (xs ys : List ℕ) where
  lt_head : x < y → Lt (x ∷ xs) (y ∷ ys)
  unfolding is_less
  lt_head h = rw (order_lt x y xs ys h)

  lt_tail : x ≡ y → Lt xs ys → Lt (x ∷ xs) (y ∷ ys)
  lt_tail e h = rw (order_eq x y xs ys e) h

  lt_cases : Lt (x ∷ xs) (y ∷ ys) → (x < y) ⊎ ((x ≡ y) × Lt xs ys)
  unfolding is_less
  lt_cases h = go (heads x y)
    where
      go : Heads x y → (x < y) ⊎ ((x ≡ y) × Lt xs ys)
      go (lower k) = inl k
      go (upper k) = absurd (false≢true (rw (order_gt x y xs ys k) at h))
      go (same k) = inr (k, rw (order_eq x y xs ys k) at h)

pub less_trans : (a b c : List ℕ) → is_less (order_of a b) ≡ true → is_less (order_of b c) ≡ true → is_less (order_of a c) ≡ true
unfolding order_of is_less
less_trans [] [] c h k = cc
less_trans [] (y ∷ ys) [] h k = k
less_trans [] (y ∷ ys) (z ∷ zs) h k = refl
less_trans (x ∷ xs) [] c h k = cc
less_trans (x ∷ xs) (y ∷ ys) [] h k = k
less_trans (x ∷ xs) (y ∷ ys) (z ∷ zs) h k = go (less_trans xs ys zs) (lt_cases x y xs ys h) (lt_cases y z ys zs k)
  where
    go : (Lt xs ys → Lt ys zs → Lt xs zs) → (x < y) ⊎ ((x ≡ y) × Lt xs ys) → (y < z) ⊎ ((y ≡ z) × Lt ys zs) → Lt (x ∷ xs) (z ∷ zs)
    go ih (inl p) (inl q) = lt_head x z xs zs (omega arith)
    go ih (inl p) (inr q) = lt_head x z xs zs (omega arith)
    go ih (inr p) (inl q) = lt_head x z xs zs (omega arith)
    go ih (inr p) (inr q) = lt_tail x z xs zs (omega arith) (ih p.1 q.1)

-- neither below nor equal: above
pub not_less_flip : (a b : List ℕ) → is_less (order_of a b) ≡ false → is_equal (order_of a b) ≡ false → is_less (order_of b a) ≡ true
unfolding order_of is_less is_equal
not_less_flip [] [] h k = sym k
not_less_flip [] (y ∷ ys) h k = sym h
not_less_flip (x ∷ xs) [] h k = refl
not_less_flip (x ∷ xs) (y ∷ ys) h k = go (not_less_flip xs ys) (heads x y)
  where
    go : (is_less (order_of xs ys) ≡ false → is_equal (order_of xs ys) ≡ false → Lt ys xs) → Heads x y → Lt (y ∷ ys) (x ∷ xs)
    go ih (lower p) = let z : true ≡ false = rw (order_lt x y xs ys p) at h in cc
    go ih (upper p) = lt_head y x ys xs p
    go ih (same p) =
        lt_tail y x ys xs (sym p) (ih (rw (order_eq x y xs ys p) at h) (rw (order_eq x y xs ys p) at k))

-- ---- how two keys stand, both ways round

pub data Sides (a b : List ℕ) : Type 0 where
  below : order_of a b ≡ less → order_of b a ≡ greater → Sides a b
  level : a ≡ b → Sides a b
  above : order_of a b ≡ greater → order_of b a ≡ less → Sides a b

pub sides : (a b : List ℕ) → Sides a b
unfolding order_of
sides [] [] = level refl
sides [] (y ∷ ys) = below refl refl
sides (x ∷ xs) [] = above refl refl
sides (x ∷ xs) (y ∷ ys) = go (heads x y) (sides xs ys)
  where
    go : Heads x y → Sides xs ys → Sides (x ∷ xs) (y ∷ ys)
    go (lower p) s = below (order_lt x y xs ys p) (order_gt y x ys xs p)
    go (upper p) s = above (order_gt x y xs ys p) (order_lt y x ys xs p)
    go (same p) (below h k) = below (order_eq x y xs ys p ∙ h) (order_eq y x ys xs (sym p) ∙ k)
    go (same p) (level e) = level (cc)
    go (same p) (above h k) = above (order_eq x y xs ys p ∙ h) (order_eq y x ys xs (sym p) ∙ k)

-- a key below another, both ways round
pub less_sides : (a b : List ℕ) → is_less (order_of a b) ≡ true → (order_of a b ≡ less) × (order_of b a ≡ greater)
unfolding is_less
less_sides a b l = go (sides a b)
  where
    go : Sides a b → (order_of a b ≡ less) × (order_of b a ≡ greater)
    go (below h k) = (h, k)
    go (level e) = absurd (false≢true (rw (e, order_refl b) at l))
    go (above h k) = absurd (false≢true (rw h at l))

pub greater_flip : (a b : List ℕ) → order_of a b ≡ greater → order_of b a ≡ less
greater_flip a b l = go (sides a b)
  where
    go : Sides a b → order_of b a ≡ less
    go (below h k) = cc
    go (level e) = cc (order_refl b)
    go (above h k) = k

-- keys are the same bytes where they are equal in order
pub same_order : (a b : List ℕ) → same_bytes a b ≡ is_equal (order_of a b)
unfolding same_bytes order_of is_equal
same_order [] [] = refl
same_order [] (y ∷ ys) = refl
same_order (x ∷ xs) [] = refl
same_order (x ∷ xs) (y ∷ ys) = go (same_order xs ys) (heads x y)
  where
    go : same_bytes xs ys ≡ is_equal (order_of xs ys) → Heads x y → same_bytes (x ∷ xs) (y ∷ ys) ≡ is_equal (order_of (x ∷ xs) (y ∷ ys))
    go ih (lower p) = rw (ne_eqb x y (λ e. omega arith), order_lt x y xs ys p)
    go ih (upper p) = rw (ne_eqb x y (λ e. omega arith), order_gt x y xs ys p)
    go ih (same p) = rw (eq-eqb x y p, order_eq x y xs ys p) ih

-- ---- keys that rise

pub rising_tail : (s : List ℕ) (ss : List (List ℕ)) → rising (s ∷ ss) ≡ true → rising ss ≡ true
unfolding rising
rising_tail s ss h = and_right (below_first s ss) (rising ss) h

-- the head is below each that follows
pub rising_head : (s : List ℕ) (ss : List (List ℕ)) (p : ℕ) → rising (s ∷ ss) ≡ true → p < length ss
    → is_less (order_of s (get_or ss p [])) ≡ true
unfolding rising below_first
rising_head s [] p h l = absurd (not-suc-le-zero l)
rising_head s (t ∷ ts) zero h l = and_left (is_less (order_of s t)) (rising (t ∷ ts)) h
rising_head s (t ∷ ts) (suc p) h l =
    less_trans s t (get_or ts p []) (and_left (is_less (order_of s t)) (rising (t ∷ ts)) h)
    (rising_head t ts p (and_right (is_less (order_of s t)) (rising (t ∷ ts)) h) (le_of_suc-le-suc l))

-- of two neighbours the first is below the second
pub rising-next : (ks : List (List ℕ)) (i : ℕ) → rising ks ≡ true → suc i < length ks
    → is_less (order_of (get_or ks i []) (get_or ks (suc i) [])) ≡ true
rising-next [] i r l = absurd (not-suc-le-zero l)
rising-next (s ∷ ss) zero r l = rising_head s ss zero r (le_of_suc-le-suc l)
rising-next (s ∷ ss) (suc i) r l = rising-next ss i (rising_tail s ss r) (le_of_suc-le-suc l)

-- a pass over neighbours: all rises if and only if what remains does
pub rising_step : (ks : List (List ℕ)) (i : ℕ) → suc i < length ks → is_less (order_of (get_or ks i []) (get_or ks (suc i) [])) ≡ true
    → rising (drop (suc i) ks) ≡ rising (drop i ks)
unfolding rising below_first
rising_step [] i l h = absurd (not-suc-le-zero l)
rising_step (s ∷ []) i l h = absurd (omega arith)
rising_step (s ∷ (t ∷ ts)) zero l h = rw h
rising_step (s ∷ (t ∷ ts)) (suc i) l h = rising_step (t ∷ ts) i (le_of_suc-le-suc l) h

pub rising-stop : (ks : List (List ℕ)) (i : ℕ) → suc i < length ks → is_less (order_of (get_or ks i []) (get_or ks (suc i) [])) ≡ false
    → rising (drop i ks) ≡ false
unfolding rising below_first
rising-stop [] i l h = absurd (not-suc-le-zero l)
rising-stop (s ∷ []) i l h = absurd (omega arith)
rising-stop (s ∷ (t ∷ ts)) zero l h = rw h
rising-stop (s ∷ (t ∷ ts)) (suc i) l h = rising-stop (t ∷ ts) i (le_of_suc-le-suc l) h

pub rising_end : (ks : List (List ℕ)) (i : ℕ) → length ks ≤ suc i → rising (drop i ks) ≡ true
unfolding rising below_first
rising_end [] zero l = refl
rising_end [] (suc i) l = refl
rising_end (s ∷ []) zero l = refl
rising_end (s ∷ (t ∷ ts)) zero l = absurd (not-suc-le-zero (le_of_suc-le-suc l))
rising_end (s ∷ ss) (suc i) l = rising_end ss i (le_of_suc-le-suc l)

-- ---- the keys of n blocks of width w: the first k bytes of each

module _ (k w n : ℕ) (m : List ℕ) where
  pub length_keys : length (map (take k) (blocks w n m)) ≡ n
  length_keys = length-map (blocks w n m) (take k) ∙ length-blocks w n m

  pub key_at_lem : (p : ℕ) → k ≤ w → p < n → get_or (map (take k) (blocks w n m)) p [] ≡ take k (drop (p * w) m)
  key_at_lem p h l =
      ap (get_or (map (take k) (blocks w n m)) p) (sym (take-nil k))
      ∙ get_or-map (take k) (blocks w n m) p []
      ∙ ap (take k) (blocks_get w n m p l)
      ∙ take-take k w (drop (p * w) m) h

  -- from the last key on, keys rise
  pub pass_end : (i : ℕ) → n ≤ i → rising (drop (i - 1) (map (take k) (blocks w n m))) ≡ true
  pass_end i h = rising_end (map (take k) (blocks w n m)) (i - 1) (rw length_keys (omega arith))

-- b says whether one key is below another, where both are slices of k bytes
abbrev pub Says : List ℕ → ℕ → ℕ → ℕ → Bool → Type 0
Says m k one other b = b ≡ is_less (order_of (take (one + k - one) (drop one m)) (take (other + k - other) (drop other m)))

-- a pass over neighbours: i is the later of the two
module _ (k w n : ℕ) (m : List ℕ) (kw : k ≤ w) where
  neighbours : (b : Bool) (j : ℕ) → suc j < n → Says m k ((suc j - 1) * w) (suc j * w) b
      → is_less (order_of (get_or (map (take k) (blocks w n m)) j []) (get_or (map (take k) (blocks w n m)) (suc j) [])) ≡ b
  neighbours b j l e =
      let s : suc j - 1 ≡ j = omega arith in
      let t : j * w + k - j * w ≡ k = omega arith in
      let u : suc j * w + k - suc j * w ≡ k = omega arith in
      rw (key_at_lem k w n m j kw (omega arith), key_at_lem k w n m (suc j) kw l) (sym (rw (s, t, u) at e))

  pub pass_on : (b : Bool) (i : ℕ) → 1 ≤ i → i < n → Says m k ((i - 1) * w) (i * w) b → b ≡ true
      → rising (drop (i + 1 - 1) (map (take k) (blocks w n m))) ≡ rising (drop (i - 1) (map (take k) (blocks w n m)))
  pass_on b zero h l e t = absurd (omega arith)
  pass_on b (suc j) h l e t =
      let s : suc j - 1 ≡ j = omega arith in
      let u : suc j + 1 - 1 ≡ suc j = omega arith in
      rw (s, u) (rising_step (map (take k) (blocks w n m)) j (rw (length_keys k w n m) l) (neighbours b j l e ∙ t))

  pub pass_stop : (b : Bool) (i : ℕ) → 1 ≤ i → i < n → Says m k ((i - 1) * w) (i * w) b → b ≡ false
      → rising (drop (i - 1) (map (take k) (blocks w n m))) ≡ false
  pass_stop b zero h l e t = absurd (omega arith)
  pass_stop b (suc j) h l e t =
      let s : suc j - 1 ≡ j = omega arith in
      rw s (rising-stop (map (take k) (blocks w n m)) j (rw (length_keys k w n m) l) (neighbours b j l e ∙ t))

-- ---- a block put in its place, by its order against the first

module _ (k : ℕ) (new block : List ℕ) (behind : List (List ℕ)) where
  pub block_below : order_of (take k new) (take k block) ≡ less → with_block k new (block ∷ behind) ≡ new ∷ block ∷ behind
  block_below h = rw h

  pub block_level : take k new ≡ take k block → with_block k new (block ∷ behind) ≡ new ∷ behind
  block_level e = rw (e, order_refl (take k block))

  pub block_above : order_of (take k new) (take k block) ≡ greater → with_block k new (block ∷ behind) ≡ block ∷ with_block k new behind
  block_above h = rw h

-- ---- beside the library's order

-- of two byte strings that rise the later one is not below the earlier, as the library compares them
pub not_below : (s t : List ℕ) → is_less (order_of s t) ≡ true → is_lt (slice_cmp nat_cmp t s) ≡ false
unfolding is_less order_of
not_below [] [] h = cc
not_below [] (y ∷ t) h = refl
not_below (x ∷ s) [] h = cc
not_below (x ∷ s) (y ∷ t) h = go (ltb x y) refl (ltb y x) refl h (not_below s t)
  where
    go : (a : Bool) → ltb x y ≡ a → (b : Bool) → ltb y x ≡ b → is_less (cond a less (cond b greater (order_of s t))) ≡ true
        → (is_less (order_of s t) ≡ true → is_lt (slice_cmp nat_cmp t s) ≡ false)
        → is_lt (ordering_then (cond b Less (cond (eqb y x) Equal Greater)) (slice_cmp nat_cmp t s)) ≡ false
    go true e true f k r = absurd (omega (arith, ltb-true x y e, ltb-true y x f))
    go true e false f k r = rw (ne_eqb y x (λ g. omega (arith, ltb-true x y e, g))) refl
    go false e true f k r = cc
    go false e false f k r =
        elim (eqb y x) as (λ q. is_lt (ordering_then (cond q Equal Greater) (slice_cmp nat_cmp t s)) ≡ false)
        [ true ↦ r k | false ↦ refl ]
