-- Laws of columns cut out of columns, of columns in two parts, and of several fields placed in one row, whatever their places and
-- widths: what is written keeps the length, and its columns are read off the list of what was placed. Assumes nothing.
use Prim.Native.Nat.{ℕ, ◌+◌, ◌-◌, ◌≤◌}
use mathlib.Core.Path.{◌≡◌, refl, sym, ap, ◌∙◌}
use mathlib.Core.List.{List, [], ◌∷◌, ◌++◌, append_assoc}
use mathlib.Core.Bool.{Bool, true, false, cond, ◌&&◌, ◌||◌}
use native.Mathlib.Omega.{arith}
use borrow.Author.Tests.{leb-true, ltb-true, eqb-true}
use lib.Dec.{eqb, leb, ltb}
use lib.ListN.{length, take, drop}
use lib.Seq.{drop-drop, take-add, take_at, drop_at}
use Rattle.text.specs.Fields.{columns, placed, Inside}
use Rattle.text.proofs.FieldsLaws.{and_left, and_right, part_of_front, length-columns, length-placed, columns_here, columns_before_lem, columns-behind}

-- ---- columns of columns

part_width : (f i j : ℕ) → 1 ≤ f → 1 ≤ i → i ≤ j + 1 → f + j - 1 + 1 - (f + i - 1) ≡ j + 1 - i
part_width f i j h l o =
    let e : f + j - 1 + 1 ≡ f + j = omega arith in
    rw e (below f i j l o)
  where
    below : (f i j : ℕ) → 1 ≤ i → i ≤ j + 1 → f + j - (f + i - 1) ≡ j + 1 - i
    below f i j l o = omega arith

part_low : (f i : ℕ) → 1 ≤ f → 1 ≤ i → f + i - 1 - 1 ≡ f - 1 + (i - 1)
part_low f i h l = omega arith

-- columns i to j of columns first to last
pub columns_of-columns : (first last i j : ℕ) (s : List ℕ) → 1 ≤ first → 1 ≤ i → i ≤ j + 1 → first + j ≤ last + 1
    → columns i j (columns first last s) ≡ columns (first + i - 1) (first + j - 1) s
columns_of-columns first last i j s f l o h =
    rw (part_width first i j f l o, part_low first i f l)
    (part_of_front (j + 1 - i) (i - 1) (last + 1 - first) (drop (first - 1) s) (omega arith)
    ∙ ap (take (j + 1 - i)) (drop-drop (i - 1) (first - 1) s))

-- columns in two parts
pub columns_split : (a m z : ℕ) (s : List ℕ) → 1 ≤ a → a ≤ m + 1 → m ≤ z → columns a z s ≡ columns a m s ++ columns (m + 1) z s
columns_split a m z s l o h =
    let w : z + 1 - a ≡ (m + 1 - a) + (z + 1 - (m + 1)) = omega arith in
    let k : a - 1 + (m + 1 - a) ≡ m + 1 - 1 = omega arith in
    ap (λ (n : ℕ). take n (drop (a - 1) s)) w
    ∙ take-add (m + 1 - a) (z + 1 - (m + 1)) (drop (a - 1) s)
    ∙ ap (λ (x : List ℕ). columns a m s ++ take (z + 1 - (m + 1)) x)
    (drop-drop (m + 1 - a) (a - 1) s ∙ ap (λ (n : ℕ). drop n s) k)

-- columns of what stands between a front and a rest
pub columns_between : (first last : ℕ) (a f b : List ℕ) → first ≡ length a + 1 → last ≡ length a + length f
    → columns first last (a ++ f ++ b) ≡ f
columns_between first last a f b e g =
    let k : first - 1 ≡ length a = omega arith in
    let w : last + 1 - first ≡ length f = omega arith in
    rw (k, w, append_assoc a f b)
    (ap (take (length f)) (drop_at a (f ++ b) (length a) refl) ∙ take_at f b (length f) refl)

-- columns of what was placed, inside the columns where it stands
pub columns-part : (first last : ℕ) (f s : List ℕ) → Inside first last s → last + 1 ≡ first + length f
    → (a z : ℕ) → first ≤ a → a ≤ z + 1 → z ≤ last
    → columns a z (placed first last f s) ≡ columns (a + 1 - first) (z + 1 - first) f
columns-part first last f s i e a z l o h =
    let x = placed first last f s in
    let ea : first + (a + 1 - first) - 1 ≡ a = omega arith in
    let ez : first + (z + 1 - first) - 1 ≡ z = omega arith in
    let c = columns_of-columns first last (a + 1 - first) (z + 1 - first) x i.low (omega arith) (omega arith) (omega arith) in
    sym (rw (ea, ez) at c) ∙ ap (columns (a + 1 - first) (z + 1 - first)) (columns_here first last f s i e)

-- ---- several fields placed in one row

-- bytes to be placed in columns first to last, unless the condition holds
pub record Put : Type 0 where
  pub unless : Bool
  pub first : ℕ
  pub last : ℕ
  pub bytes : List ℕ

abbrev pub put : ℕ → ℕ → List ℕ → Put
put first last f = record { unless = false; first = first; last = last; bytes = f }

abbrev pub put_unless : Bool → ℕ → ℕ → List ℕ → Put
put_unless keep first last f = record { unless = keep; first = first; last = last; bytes = f }

-- all of them placed, the first of the list last
abbrev pub written : List Put → List ℕ → List ℕ
written [] s = s
written (p ∷ ps) s = cond p.unless (written ps s) (placed p.first p.last p.bytes (written ps s))

-- the bytes are as wide as their columns, and these are columns of a row of w bytes
pub record Fits (w : ℕ) (p : Put) : Type 0 where
  pub low : 1 ≤ p.first
  pub wide : p.last + 1 ≡ p.first + length p.bytes
  pub high : p.last ≤ w

abbrev pub AllFit : ℕ → List Put → Type 0
AllFit w [] = Unit {0}
AllFit w (p ∷ ps) = Fits w p × AllFit w ps

-- columns a to z lie before or behind those of p
abbrev pub is_apart : ℕ → ℕ → Put → Bool
is_apart a z p = ltb z p.first || ltb p.last a

-- they are some of those of p
abbrev pub is_part : ℕ → ℕ → Put → Bool
is_part a z p = leb p.first a && leb z p.last

-- each puts something in all of the columns a to z, or in none of them
abbrev pub is_clear : ℕ → ℕ → List Put → Bool
is_clear a z [] = true
is_clear a z (p ∷ ps) = (is_apart a z p || is_part a z p) && is_clear a z ps

-- columns a to z of what is written
abbrev pub read : ℕ → ℕ → List Put → List ℕ → List ℕ
read a z [] s = columns a z s
read a z (p ∷ ps) s =
    cond (is_apart a z p || p.unless) (read a z ps s) (columns (a + 1 - p.first) (z + 1 - p.first) p.bytes)

module _ (w : ℕ) where
  inside : (p : Put) (s : List ℕ) → Fits w p → length s ≡ w → Inside p.first p.last s
  inside p s f e = record { low = f.low; ordered = omega (arith, f.wide); high = omega (arith, f.high) }

  pub length-written : (ps : List Put) (s : List ℕ) → AllFit w ps → length s ≡ w → length (written ps s) ≡ w
  length-written [] s f e = e
  length-written (p ∷ ps) s f e = go p.unless (length-written ps s f.1 e)
    where
      go : (b : Bool) → length (written ps s) ≡ w
          → length (cond b (written ps s) (placed p.first p.last p.bytes (written ps s))) ≡ w
      go true l = l
      go false l = length-placed p.first p.last p.bytes (written ps s) (inside p (written ps s) f.0 l) f.0.wide ∙ l

  -- columns of one put
  module _ (p : Put) (s : List ℕ) (f : Fits w p) (e : length s ≡ w) (a z : ℕ) (l : 1 ≤ a) (o : a ≤ z + 1) where
    apart_kept : is_apart a z p ≡ true → columns a z (placed p.first p.last p.bytes s) ≡ columns a z s
    apart_kept t = go (ltb z p.first) refl t
      where
        go : (b : Bool) → ltb z p.first ≡ b → (b || ltb p.last a) ≡ true
            → columns a z (placed p.first p.last p.bytes s) ≡ columns a z s
        go true h t =
            columns_before_lem p.first p.last p.bytes s (inside p s f e) f.wide a z l o (ltb-true z p.first h)
        go false h t = columns-behind p.first p.last p.bytes s (inside p s f e) f.wide a z (ltb-true p.last a t)

    part-read : is_part a z p ≡ true
        → columns a z (placed p.first p.last p.bytes s) ≡ columns (a + 1 - p.first) (z + 1 - p.first) p.bytes
    part-read t =
        columns-part p.first p.last p.bytes s (inside p s f e) f.wide a z
        (leb-true p.first a (and_left (leb p.first a) (leb z p.last) t)) o
        (leb-true z p.last (and_right (leb p.first a) (leb z p.last) t))

  pub columns-written : (a z : ℕ) → 1 ≤ a → a ≤ z + 1
      → (ps : List Put) (s : List ℕ) → is_clear a z ps ≡ true → AllFit w ps → length s ≡ w
      → columns a z (written ps s) ≡ read a z ps s
  columns-written a z l o [] s c f e = refl
  columns-written a z l o (p ∷ ps) s c f e =
      go p.unless (is_apart a z p) refl
      (and_left (is_apart a z p || is_part a z p) (is_clear a z ps) c)
      (columns-written a z l o ps s (and_right (is_apart a z p || is_part a z p) (is_clear a z ps) c) f.1 e)
    where
      lt : length (written ps s) ≡ w
      lt = length-written ps s f.1 e

      go : (u b : Bool) → is_apart a z p ≡ b → (b || is_part a z p) ≡ true → columns a z (written ps s) ≡ read a z ps s
          → columns a z (cond u (written ps s) (placed p.first p.last p.bytes (written ps s)))
          ≡ cond (b || u) (read a z ps s) (columns (a + 1 - p.first) (z + 1 - p.first) p.bytes)
      go true true h t r = r
      go true false h t r = r
      go false true h t r = apart_kept p (written ps s) f.0 lt a z l o h ∙ r
      go false false h t r = part-read p (written ps s) f.0 lt a z l o t

-- no field has any of the columns a to z
abbrev pub is_free : ℕ → ℕ → List Put → Bool
is_free a z [] = true
is_free a z (p ∷ ps) = is_apart a z p && is_free a z ps

-- such columns stay
pub columns_free : (w a z : ℕ) → 1 ≤ a → a ≤ z + 1 → (ps : List Put) (s : List ℕ) → is_free a z ps ≡ true → AllFit w ps → length s ≡ w
    → columns a z (written ps s) ≡ columns a z s
columns_free w a z l o [] s c f e = refl
columns_free w a z l o (p ∷ ps) s c f e =
    go p.unless (columns_free w a z l o ps s (and_right (is_apart a z p) (is_free a z ps) c) f.1 e)
  where
    go : (u : Bool) → columns a z (written ps s) ≡ columns a z s
        → columns a z (cond u (written ps s) (placed p.first p.last p.bytes (written ps s))) ≡ columns a z s
    go true r = r
    go false r =
        apart_kept w p (written ps s) f.0 (length-written w ps s f.1 e) a z l o (and_left (is_apart a z p) (is_free a z ps) c) ∙ r

-- ---- fields taken over from columns of another record

-- columns a to z of n bytes are as wide as columns first to last of w bytes
abbrev pub is_as_wide : ℕ → ℕ → ℕ → ℕ → ℕ → ℕ → Bool
is_as_wide w first last n a z = leb 1 first && (leb last w && (leb 1 a && (leb a z && (leb z n && eqb (last + a) (first + z)))))

pub fits-columns : (w first last n a z : ℕ) (keep : Bool) (s : List ℕ) → length s ≡ n → is_as_wide w first last n a z ≡ true
    → Fits w (put_unless keep first last (columns a z s))
fits-columns w first last n a z keep s e t1 =
    let t2 = and_right (leb 1 first) (leb last w && (leb 1 a && (leb a z && (leb z n && eqb (last + a) (first + z))))) t1 in
    let t3 = and_right (leb last w) (leb 1 a && (leb a z && (leb z n && eqb (last + a) (first + z)))) t2 in
    let t4 = and_right (leb 1 a) (leb a z && (leb z n && eqb (last + a) (first + z))) t3 in
    let t5 = and_right (leb a z) (leb z n && eqb (last + a) (first + z)) t4 in
    let h1 = leb-true 1 first (and_left (leb 1 first) _ t1) in
    let h2 = leb-true last w (and_left (leb last w) _ t2) in
    let h3 = leb-true 1 a (and_left (leb 1 a) _ t3) in
    let h4 = leb-true a z (and_left (leb a z) _ t4) in
    let h5 = leb-true z n (and_left (leb z n) _ t5) in
    let h6 = eqb-true (last + a) (first + z) (and_right (leb z n) _ t5) in
    let l : length (columns a z s) ≡ z + 1 - a =
    length-columns a z s (record { low = h3; ordered = omega arith; high = omega arith }) in
    record { low = h1; wide = omega arith; high = h2 }
