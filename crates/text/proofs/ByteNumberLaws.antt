-- Laws of bytes as a number in base 256: bytes of one length stand in byte order as their numbers do. Assumes nothing.
use mathlib.Core.Path.{◌≡◌, refl, sym, ap, ◌∙◌}
use mathlib.Core.Bool.{◌&&◌, ◌||◌}
use mathlib.Core.List.{List, [], ◌∷◌, ◌++◌, append-nil}
use Prim.Native.Nat.{ℕ, zero, suc, ◌+◌, ◌*◌, ◌^◌, ◌≤◌, ◌<◌, suc-le-suc}
use native.Mathlib.Nat.{zero-lt-suc, pow-suc, pow-le-pow_right, lt_of_lt_of_le}
use native.Mathlib.Numerals.{add-one}
use native.Mathlib.Omega.{arith}
use lib.Dec.{ltb, eqb, lit<}
use lib.ListN.{length, take, drop, get_or, length-drop}
use lib.Seq.{length-take-le, take-suc, take-add, take_all}
use borrow.Author.Tests.{lt-ltb, le-ltb, eq-eqb, ne_eqb}
use Rattle.text.specs.ByteOrder.{less, greater, order_of, is_less}
use Rattle.text.specs.ByteNumbers.{AreBytes, bytes_onto, bytes_number}
use Rattle.text.proofs.ByteOrderLaws.{Heads, lower, upper, same, heads, order_lt, order_gt, order_eq, order_front, order_refl}

-- ---- bytes

pub bytes_of : (s : List ℕ) → ((i : ℕ) → i < length s → get_or s i 0 < 256) → AreBytes s
bytes_of [] h = tt
bytes_of (b ∷ s) h = (h 0 (zero-lt-suc (length s)), bytes_of s (λ i l. h (suc i) (suc-le-suc l)))

pub bytes_take : (n : ℕ) (s : List ℕ) → AreBytes s → AreBytes (take n s)
bytes_take zero s h = tt
bytes_take (suc n) [] h = tt
bytes_take (suc n) (b ∷ s) h = (h.0, bytes_take n s h.1)

pub bytes_drop : (n : ℕ) (s : List ℕ) → AreBytes s → AreBytes (drop n s)
bytes_drop zero s h = h
bytes_drop (suc n) [] h = tt
bytes_drop (suc n) (b ∷ s) h = bytes_drop n s h.1

-- ---- the number of bytes read one behind the other

onto_append : (n : ℕ) (s t : List ℕ) → bytes_onto n (s ++ t) ≡ bytes_onto (bytes_onto n s) t
onto_append n [] t = refl
onto_append n (b ∷ s) t = onto_append (n * 256 + b) s t

-- one byte more
pub number_more : (s : List ℕ) (k n : ℕ) → k < length s → n ≡ bytes_number (take k s) → n * 256 + get_or s k 0 ≡ bytes_number (take (k + 1) s)
unfolding bytes_number
number_more s k n h e = rw (add-one k, take-suc s k 0 h, onto_append 0 (take k s) (get_or s k 0 ∷ []), e)

pub byte_more : (n b k : ℕ) → n < 256 ^ k → b < 256 → n * 256 + b < 256 ^ (k + 1)
byte_more n b k h l = rw (add-one k, pow-suc 256 k) (omega arith)

-- a number of fewer than eight bytes leaves room for one byte more
pub bytes_fit : (n k : ℕ) → n < 256 ^ k → k < 8 → n * 256 + 255 < 256 ^ 8
bytes_fit n k h l =
    let o : k + 1 ≤ 8 = omega arith in
    let p : 256 ^ (k + 1) ≤ 256 ^ 8 = pow-le-pow_right (lit< tt) o in
    lt_of_lt_of_le (byte_more n 255 k h (lit< tt)) p

-- ---- byte order

-- bytes onto a lesser number write a lesser number
onto_less : (n m : ℕ) (s t : List ℕ) → length s ≡ length t → AreBytes s → AreBytes t → n < m → bytes_onto n s < bytes_onto m t
onto_less n m [] [] e p q h = h
onto_less n m [] (y ∷ t) e p q h = absurd (omega arith)
onto_less n m (x ∷ s) [] e p q h = absurd (omega arith)
onto_less n m (x ∷ s) (y ∷ t) e p q h = onto_less (n * 256 + x) (m * 256 + y) s t (omega arith) p.1 q.1 (omega arith)

-- how two strings of as many bytes stand, by their numbers and by their bytes, whatever follows them
data Stand (n : ℕ) (s t : List ℕ) : Type 0 where
  below : bytes_onto n s < bytes_onto n t → ((u v : List ℕ) → order_of (s ++ u) (t ++ v) ≡ less) → Stand n s t
  level : s ≡ t → Stand n s t
  above : bytes_onto n t < bytes_onto n s → ((u v : List ℕ) → order_of (s ++ u) (t ++ v) ≡ greater) → Stand n s t

stand : (n : ℕ) (s t : List ℕ) → length s ≡ length t → AreBytes s → AreBytes t → Stand n s t
stand n [] [] e p q = level refl
stand n [] (y ∷ t) e p q = absurd (omega arith)
stand n (x ∷ s) [] e p q = absurd (omega arith)
stand n (x ∷ s) (y ∷ t) e p q = go (heads x y) (stand (n * 256 + x) s t (omega arith) p.1 q.1) (omega arith)
  where
    go : Heads x y → Stand (n * 256 + x) s t → length s ≡ length t → Stand n (x ∷ s) (y ∷ t)
    go (lower h) r l =
        below (onto_less (n * 256 + x) (n * 256 + y) s t l p.1 q.1 (omega arith)) (λ u v. order_lt x y (s ++ u) (t ++ v) h)
    go (upper h) r l =
        above (onto_less (n * 256 + y) (n * 256 + x) t s (sym l) q.1 p.1 (omega arith)) (λ u v. order_gt x y (s ++ u) (t ++ v) h)
    go (same h) (below k o) l = below (rw (← h) k) (λ u v. order_eq x y (s ++ u) (t ++ v) h ∙ o u v)
    go (same h) (level k) l = level (cc)
    go (same h) (above k o) l = above (rw (← h) k) (λ u v. order_eq x y (s ++ u) (t ++ v) h ∙ o u v)

-- bytes of one length are below others where their number is
pub number_order : (s t : List ℕ) → length s ≡ length t → AreBytes s → AreBytes t → is_less (order_of s t) ≡ ltb (bytes_number s) (bytes_number t)
unfolding is_less bytes_number
number_order s t e p q = go (stand 0 s t e p q)
  where
    go : Stand 0 s t → is_less (order_of s t) ≡ ltb (bytes_number s) (bytes_number t)
    go (below h o) = rw (lt-ltb _ _ h) (ap is_less (rw (append-nil s, append-nil t) at (o [] [])))
    go (level h) = rw (h, order_refl t, le-ltb (bytes_number t) (bytes_number t) (omega arith))
    go (above h o) =
        rw (le-ltb (bytes_number s) (bytes_number t) (omega arith)) (ap is_less (rw (append-nil s, append-nil t) at (o [] [])))

-- bytes of one length and one number are the same
pub number_same : (s t : List ℕ) → length s ≡ length t → AreBytes s → AreBytes t → bytes_number s ≡ bytes_number t → s ≡ t
unfolding bytes_number
number_same s t e p q n = go (stand 0 s t e p q)
  where
    go : Stand 0 s t → s ≡ t
    go (below h o) = absurd (omega (arith, n))
    go (level h) = h
    go (above h o) = absurd (omega (arith, n))

-- in two parts, of which the first decides where it differs
parts_order : (s t u v : List ℕ) → length s ≡ length t → length u ≡ length v → AreBytes s → AreBytes t → AreBytes u → AreBytes v
    → is_less (order_of (s ++ u) (t ++ v))
    ≡ (ltb (bytes_number s) (bytes_number t) || (eqb (bytes_number s) (bytes_number t) && ltb (bytes_number u) (bytes_number v)))
unfolding is_less bytes_number
parts_order s t u v e f p q i j = go (stand 0 s t e p q)
  where
    go : Stand 0 s t → is_less (order_of (s ++ u) (t ++ v))
        ≡ (ltb (bytes_number s) (bytes_number t) || (eqb (bytes_number s) (bytes_number t) && ltb (bytes_number u) (bytes_number v)))
    go (below h o) = rw (o u v, lt-ltb _ _ h)
    go (level h) =
        rw (h, order_front t u v, le-ltb (bytes_number t) (bytes_number t) (omega arith), eq-eqb (bytes_number t) (bytes_number t) refl)
        (number_order u v f i j)
    go (above h o) =
        rw (o u v, le-ltb (bytes_number s) (bytes_number t) (omega arith), ne_eqb (bytes_number s) (bytes_number t) (λ z. omega arith))

-- keys of twelve bytes: the first eight, then the last four
pub key_order : (a b : List ℕ) → length a ≡ 12 → length b ≡ 12 → AreBytes a → AreBytes b
    → is_less (order_of a b)
    ≡ (ltb (bytes_number (take 8 a)) (bytes_number (take 8 b))
    || (eqb (bytes_number (take 8 a)) (bytes_number (take 8 b)) && ltb (bytes_number (take 4 (drop 8 a))) (bytes_number (take 4 (drop 8 b)))))
key_order a b e f p q =
    let h = length-take-le 8 a (omega arith) ∙ sym (length-take-le 8 b (omega arith)) in
    let k = length_back a e ∙ sym (length_back b f) in
    let w : order_of a b ≡ order_of (take 8 a ++ take 4 (drop 8 a)) (take 8 b ++ take 4 (drop 8 b)) = rw (whole a e, whole b f) in
    ap is_less w
    ∙ parts_order (take 8 a) (take 8 b) (take 4 (drop 8 a)) (take 4 (drop 8 b)) h k (bytes_take 8 a p) (bytes_take 8 b q)
    (bytes_take 4 (drop 8 a) (bytes_drop 8 a p)) (bytes_take 4 (drop 8 b) (bytes_drop 8 b q))
  where
    length_back : (s : List ℕ) → length s ≡ 12 → length (take 4 (drop 8 s)) ≡ 4
    length_back s l = length-take-le 4 (drop 8 s) (rw length-drop (omega arith))

    whole : (s : List ℕ) → length s ≡ 12 → take 8 s ++ take 4 (drop 8 s) ≡ s
    whole s l = sym (take-add 8 4 s) ∙ take_all 12 s (omega arith)
