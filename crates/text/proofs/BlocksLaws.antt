-- Laws of blocks that stand one behind the other, and of a buffer that holds blocks and keeps the rest, over any width.
-- Assumes nothing.
use mathlib.Core.Path.{◌≡◌, refl, sym, ap, ◌∙◌}
use mathlib.Core.Bool.{Bool, true, ◌&&◌}
use mathlib.Core.List.{List, [], ◌∷◌, ◌++◌, map}
use Prim.Native.Nat.{ℕ, zero, suc, ◌+◌, ◌-◌, ◌*◌, ◌≤◌, ◌<◌}
use native.Mathlib.Nat.{suc-add, zero-add, zero-mul, one-mul, suc-mul, add-mul, mul-le-mul_right, not-suc-le-zero, le_of_suc-le-suc, le_refl}
use native.Mathlib.Numerals.{add-one}
use native.Mathlib.Omega.{arith}
use lib.ListN.{length, take, drop, get_or, length-take, length-drop, take-append-drop, drop_of_length-le}
use lib.Seq.{length-take-le, take-append-le, drop-append-le, take-take, take-add, take_all, drop-drop, drop-cons}
use Rattle.text.specs.Blocks.{blocks, joined, over, spliced, Holds}
use Rattle.text.proofs.SplicedLaws.{drop-spliced, drop-take}
use Rattle.text.specs.Fields.{every}

-- what is done to each, with one more at the end
pub map_snoc : {X Y : Type 0} (f : X → Y) (xs : List X) (x : X) → map f (xs ++ x ∷ []) ≡ map f xs ++ f x ∷ []
map_snoc f [] x = refl
map_snoc f (y ∷ xs) x = rw (map_snoc f xs x)

module _ (w : ℕ) where
  -- ---- blocks cut from bytes

  -- the first k bytes of block i of n lie inside l bytes
  pub inside : {i n k l : ℕ} → i < n → n * w ≤ l → k ≤ w → i * w + k ≤ l
  inside {i} h nl kw = omega (arith, mul-le-mul_right w h, suc-mul i w)

  suc_w : (p : ℕ) → suc p * w ≡ w + p * w
  suc_w p = omega (arith, suc-mul p w)

  pub length-blocks : (n : ℕ) (xs : List ℕ) → length (blocks w n xs) ≡ n
  unfolding blocks
  length-blocks zero xs = refl
  length-blocks (suc n) xs = ap suc (length-blocks n (drop w xs))

  pub blocks_get : (n : ℕ) (xs : List ℕ) (i : ℕ) → i < n → get_or (blocks w n xs) i [] ≡ take w (drop (i * w) xs)
  unfolding blocks
  blocks_get zero xs i h = absurd (not-suc-le-zero h)
  blocks_get (suc n) xs zero h = rw zero-mul
  blocks_get (suc n) xs (suc i) h =
      blocks_get n (drop w xs) i (le_of_suc-le-suc h)
      ∙ ap (take w) (drop-drop (i * w) w xs ∙ ap (λ (z : ℕ). drop z xs) (sym (suc_w i)))

  -- the block at i, and those behind it
  pub blocks-next : (n : ℕ) (xs : List ℕ) (i : ℕ) → i < n → drop i (blocks w n xs) ≡ take w (drop (i * w) xs) ∷ drop (i + 1) (blocks w n xs)
  blocks-next n xs i l =
      rw (drop-cons (blocks w n xs) i [] (rw (length-blocks n xs) l), blocks_get n xs i l, add-one i)

  -- a block's first bytes, as many as it has, are the block
  pub blocks_whole : (n : ℕ) (xs : List ℕ) → map (take w) (blocks w n xs) ≡ blocks w n xs
  unfolding blocks
  blocks_whole zero xs = refl
  blocks_whole (suc n) xs = rw (take-take w w xs (le_refl w), blocks_whole n (drop w xs))

  pub blocks-append : (p q : ℕ) (a b : List ℕ) → length a ≡ p * w → blocks w (p + q) (a ++ b) ≡ blocks w p a ++ blocks w q b
  unfolding blocks
  blocks-append zero q [] b e = rw zero-add
  blocks-append zero q (x ∷ a) b e = absurd (omega (arith, zero-mul w))
  blocks-append (suc p) q a b e =
      let la : w ≤ length a = omega (arith, suc-mul p w) in
      let ld : length (drop w a) ≡ p * w = length-drop w a ∙ omega (arith, suc-mul p w) in
      rw (suc-add p q, take-append-le w a b la, drop-append-le w a b la, blocks-append p q (drop w a) b ld)

  pub blocks_one : (r : List ℕ) → length r ≡ w → blocks w 1 r ≡ r ∷ []
  unfolding blocks
  blocks_one r e = ap (λ (z : List ℕ). z ∷ []) (take_all w r (omega arith))

  -- only the bytes of the blocks count
  pub blocks_prefix : (p : ℕ) (xs : List ℕ) → blocks w p (take (p * w) xs) ≡ blocks w p xs
  unfolding blocks
  blocks_prefix zero xs = refl
  blocks_prefix (suc p) xs =
      rw (suc_w p, take-take w (w + p * w) xs (omega arith), drop-take w (p * w) xs, blocks_prefix p (drop w xs))

  pub blocks-front : (p : ℕ) (xs ys : List ℕ) → p * w ≤ length xs → blocks w p (xs ++ ys) ≡ blocks w p xs
  blocks-front p xs ys h =
      sym (blocks_prefix p (xs ++ ys)) ∙ ap (blocks w p) (take-append-le (p * w) xs ys h) ∙ blocks_prefix p xs

  pub take-blocks : (p n : ℕ) (xs : List ℕ) → p ≤ n → take p (blocks w n xs) ≡ blocks w p xs
  unfolding blocks
  take-blocks zero n xs h = refl
  take-blocks (suc p) zero xs h = absurd (not-suc-le-zero h)
  take-blocks (suc p) (suc n) xs h = rw (take-blocks p n (drop w xs) (le_of_suc-le-suc h))

  pub drop-blocks : (p q : ℕ) (xs : List ℕ) → drop p (blocks w (p + q) xs) ≡ blocks w q (drop (p * w) xs)
  unfolding blocks
  drop-blocks zero q xs = rw (zero-add q, zero-mul w)
  drop-blocks (suc p) q xs = rw (suc-add p q, suc_w p, ← drop-drop (p * w) w xs) (drop-blocks p q (drop w xs))

  pub joined-blocks : (n : ℕ) (xs : List ℕ) → n * w ≤ length xs → joined (blocks w n xs) ≡ take (n * w) xs
  unfolding blocks joined
  joined-blocks zero xs h = rw zero-mul
  joined-blocks (suc n) xs h =
      rw (suc_w n, take-add w (n * w) xs, joined-blocks n (drop w xs) (rw length-drop (omega (arith, suc-mul n w))))

  -- p blocks, a block, q blocks, and whatever follows
  pub blocks_parts : (p q : ℕ) (a r b c : List ℕ) → length a ≡ p * w → length r ≡ w → q * w ≤ length b
      → blocks w (p + (1 + q)) (a ++ (r ++ (b ++ c))) ≡ blocks w p a ++ r ∷ blocks w q b
  blocks_parts p q a r b c ea er hb =
      rw (blocks-append p (1 + q) a (r ++ (b ++ c)) ea, blocks-append 1 q r (b ++ c) (er ∙ sym (one-mul w)))
      (rw (blocks_one r er, blocks-front q b c hb))

  -- ---- a test of each block, from the block at i on

  -- a part of w bytes, as code cuts it out
  pub part_width : (xs : List ℕ) (a : ℕ) → take (a + w - a) (drop a xs) ≡ take w (drop a xs)
  part_width xs a = let e : a + w - a ≡ w = omega arith in rw e

  -- b says whether the block at i passes
  pub every_block_step : (f : List ℕ → Bool) (n : ℕ) (xs : List ℕ) (i : ℕ) (b : Bool) → i < n
      → b ≡ f (take (i * w + w - i * w) (drop (i * w) xs))
      → every f (drop i (blocks w n xs)) ≡ (b && every f (drop (i + 1) (blocks w n xs)))
  every_block_step f n xs i b l e = rw (blocks-next n xs i l, ← part_width xs (i * w), ← e)

  pub every_block_end : (f : List ℕ → Bool) (n : ℕ) (xs : List ℕ) (i : ℕ) → n ≤ i → every f (drop i (blocks w n xs)) ≡ true
  every_block_end f n xs i l = rw (drop_of_length-le (blocks w n xs) {i = i} (rw (length-blocks n xs) l))

  -- ---- what a buffer holds

  -- a block written behind n
  pub holds_append : (n : ℕ) (m r : List ℕ) → length r ≡ w → n * w + w ≤ length m
      → Holds w m (spliced m (n * w) r) (n + 1) (blocks w n m ++ r ∷ [])
  unfolding spliced
  holds_append n m r er h =
      let en : (n + 1) * w ≡ n * w + w = omega (arith, add-mul n 1 w, one-mul w) in
      let b : List ℕ = drop (n * w + length r) m in
      let ea : length (take (n * w) m) ≡ n * w = length-take-le (n * w) m (omega arith) in
      record {
        blocks_are =
            rw (blocks-append n 1 (take (n * w) m) (r ++ b) ea, blocks_prefix n m)
            (rw (blocks-front 1 r b (omega (arith, one-mul w)), blocks_one r er));
        rest_kept = drop-spliced m (n * w) r ((n + 1) * w) (omega arith) (omega arith);
      }

  -- the whole buffer, from its blocks and what is kept
  pub holds_over : (m m' : List ℕ) (n : ℕ) (rows : List (List ℕ)) → Holds w m m' n rows → n * w ≤ length m' → m' ≡ over (joined rows) m
  unfolding over
  holds_over m m' n rows h l =
      let f : joined rows ≡ take (n * w) m' = ap joined (sym h.blocks_are) ∙ joined-blocks n m' l in
      let lf : length (joined rows) ≡ n * w = ap length f ∙ length-take-le (n * w) m' l in
      rw lf (sym (take-append-drop (n * w) m') ∙ (rw (f, h.rest_kept)))

-- ---- blocks in two runs

module _ (w : ℕ) where
  pub blocks_split : (p q : ℕ) (xs : List ℕ) → blocks w (p + q) xs ≡ blocks w p xs ++ blocks w q (drop (p * w) xs)
  blocks_split p q xs =
      sym (take-append-drop p (blocks w (p + q) xs))
      ∙ rw (take-blocks w p (p + q) xs (omega arith), drop-blocks w p q xs)

  -- the first p blocks and the one behind them
  pub blocks_snoc : (p : ℕ) (xs : List ℕ) → p * w + w ≤ length xs → blocks w (p + 1) xs ≡ blocks w p xs ++ take w (drop (p * w) xs) ∷ []
  blocks_snoc p xs h =
      let r : List ℕ = drop (p * w) xs in
      let lr : length (take w r) ≡ w = simp (length-take, length-drop) (omega arith) in
      let e : take (1 * w) r ≡ take w r = ap (λ (z : ℕ). take z r) (one-mul w) in
      blocks_split p 1 xs
      ∙ ap (λ (z : List (List ℕ)). blocks w p xs ++ z) (sym (blocks_prefix w 1 r) ∙ ap (blocks w 1) e ∙ blocks_one w (take w r) lr)

-- bytes kept from a on are kept from b on
pub kept_further : (x y : List ℕ) (a b : ℕ) → a ≤ b → drop a x ≡ drop a y → drop b x ≡ drop b y
kept_further x y a b l e =
    let eb : b ≡ a + (b - a) = omega arith in
    ap (λ (z : ℕ). drop z x) eb
    ∙ sym (drop-drop (b - a) a x)
    ∙ ap (drop (b - a)) e
    ∙ drop-drop (b - a) a y
    ∙ ap (λ (z : ℕ). drop z y) (sym eb)
