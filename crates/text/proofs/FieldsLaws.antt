-- Laws of tests over a run of bytes, from any index on, whatever the test; and of columns and what is placed in them, whatever
-- their place and width. Assumes nothing.
use mathlib.Core.Path.{◌≡◌, refl, sym, ap, ◌∙◌}
use mathlib.Core.Bool.{Bool, true, false, ◌&&◌, ◌||◌, and_assoc, and-true}
use mathlib.Core.List.{List, [], ◌∷◌, ◌++◌, append_assoc}
use Prim.Native.Nat.{ℕ, zero, suc, ◌+◌, ◌-◌, ◌≤◌, ◌<◌}
use native.Mathlib.Numerals.{add-one}
use native.Mathlib.Omega.{arith}
use lib.Dec.{eqb, lit<}
use lib.ListN.{length, get_or, take, drop, length-append, length-take, length-drop}
use lib.Seq.{drop-cons, drop-drop, length-take-le, take_at, drop_at, take-take, get_or-take, get_or-drop}
use borrow.Author.Tests.{eqb-true}
use Rattle.std.specs.List.{fold, list_any}
use Rattle.text.specs.Characters.{is_digit}
use Rattle.text.specs.Fields.{every, at_least_one, columns, placed, Inside, all_digits, are_digits}
use Rattle.text.specs.Blocks.{spliced}

-- ---- two tests

pub and_left : (a b : Bool) → (a && b) ≡ true → a ≡ true
and_left true b t = refl
and_left false b t = t

pub and_right : (a b : Bool) → (a && b) ≡ true → b ≡ true
and_right true b t = t
and_right false b t = cc

-- ---- each byte, at least one byte

module _ (f : ℕ → Bool) (s : List ℕ) (i : ℕ) where
  pub every_step : i < length s → every f (drop i s) ≡ (f (get_or s i 0) && every f (drop (i + 1) s))
  every_step h = rw (drop-cons s i 0 h, add-one i)

  pub every_head : i < length s → every f (drop i s) ≡ true → f (get_or s i 0) ≡ true
  every_head h t = and_left (f (get_or s i 0)) (every f (drop (i + 1) s)) (sym (every_step h) ∙ t)

  pub every_tail : i < length s → every f (drop i s) ≡ true → every f (drop (i + 1) s) ≡ true
  every_tail h t = and_right (f (get_or s i 0)) (every f (drop (i + 1) s)) (sym (every_step h) ∙ t)

-- the library's test that some byte passes
pub any-at_least_one : (f : ℕ → Bool) (s : List ℕ) → list_any f s ≡ at_least_one f s
any-at_least_one f [] = refl
any-at_least_one f (b ∷ bs) = ap (λ (t : Bool). f b || t) (any-at_least_one f bs)

-- a test of each byte, gathered from the first byte on
pub every-fold : (f : ℕ → Bool) (ok : Bool) (s : List ℕ) → fold (λ a b. a && f b) ok s ≡ (ok && every f s)
every-fold f ok [] = sym (and-true ok)
every-fold f ok (b ∷ bs) = every-fold f (ok && f b) bs ∙ and_assoc ok (f b) (every f bs)

-- a test that each byte passes, each of any columns passes
pub every_take : (f : ℕ → Bool) (n : ℕ) (s : List ℕ) → every f s ≡ true → every f (take n s) ≡ true
every_take f zero s t = refl
every_take f (suc n) [] t = refl
every_take f (suc n) (b ∷ bs) t = rw (and_left (f b) (every f bs) t) (every_take f n bs (and_right (f b) (every f bs) t))

pub every_drop : {X : Type 0} (f : X → Bool) (n : ℕ) (s : List X) → every f s ≡ true → every f (drop n s) ≡ true
every_drop f zero s t = t
every_drop f (suc n) [] t = refl
every_drop f (suc n) (b ∷ bs) t = every_drop f n bs (and_right (f b) (every f bs) t)

pub every-columns : (f : ℕ → Bool) (first last : ℕ) (s : List ℕ) → every f s ≡ true → every f (columns first last s) ≡ true
every-columns f first last s t = every_take f (last + 1 - first) (drop (first - 1) s) (every_drop f (first - 1) s t)

-- ---- columns

pub length-columns : (first last : ℕ) (s : List ℕ) → Inside first last s → length (columns first last s) ≡ last + 1 - first
length-columns first last s i = simp (length-take, length-drop) (omega arith)

-- a field of one column
pub one_column : (n : ℕ) (s : List ℕ) → 1 ≤ n → get_or (columns n n s) 0 0 ≡ get_or s (n - 1) 0
one_column n s h =
    let w : n + 1 - n ≡ 1 = omega arith in
    let z : n - 1 + 0 ≡ n - 1 = omega arith in
    rw w (get_or-take 1 (drop (n - 1) s) 0 0 (lit< tt) ∙ get_or-drop (n - 1) s 0 0 ∙ ap (λ (k : ℕ). get_or s k 0) z)

-- what is as wide as the columns is placed where it is spliced in
pub placed-spliced : (first last : ℕ) (f s : List ℕ) → 1 ≤ first → last + 1 ≡ first + length f → spliced s (first - 1) f ≡ placed first last f s
unfolding spliced
placed-spliced first last f s l e =
    let w : first - 1 + length f ≡ last = omega arith in
    rw w (sym (append_assoc (take (first - 1) s) f (drop last s)))

-- what was placed stands there
module _ (first last : ℕ) (f s : List ℕ) (i : Inside first last s) (e : last + 1 ≡ first + length f) where
  front : length (take (first - 1) s) ≡ first - 1
  front = length-take-le (first - 1) s (omega arith)

  pub length-placed : length (placed first last f s) ≡ length s
  length-placed = simp (length-append, length-take, length-drop) (omega arith)

-- ---- columns of what was placed

-- only the bytes up to its end count for a part
pub part_of_front : (m k n : ℕ) (s : List ℕ) → k + m ≤ n → take m (drop k (take n s)) ≡ take m (drop k s)
part_of_front m zero n s h = take-take m n s (omega arith)
part_of_front m (suc k) zero s h = absurd (omega arith)
part_of_front m (suc k) (suc n) [] h = refl
part_of_front m (suc k) (suc n) (x ∷ s) h = part_of_front m k n s (omega arith)

module _ (first last : ℕ) (f s : List ℕ) (i : Inside first last s) (e : last + 1 ≡ first + length f) where
  -- those columns
  pub columns_here : columns first last (placed first last f s) ≡ f
  columns_here =
      let w : last + 1 - first ≡ length f = omega arith in
      let g : drop (first - 1) (take (first - 1) s ++ f ++ drop last s) ≡ f ++ drop last s =
      ap (drop (first - 1)) (append_assoc (take (first - 1) s) f (drop last s)) ∙ drop_at (take (first - 1) s) (f ++ drop last s) (first - 1) (front first last f s i e) in
      rw (w, g) (take_at f (drop last s) (length f) refl)

  pub take_before : take (first - 1) (placed first last f s) ≡ take (first - 1) s
  take_before =
      ap (take (first - 1)) (append_assoc (take (first - 1) s) f (drop last s))
      ∙ take_at (take (first - 1) s) (f ++ drop last s) (first - 1) (front first last f s i e)

  pub drop-behind : drop last (placed first last f s) ≡ drop last s
  drop-behind =
      let w : length (take (first - 1) s ++ f) ≡ last = simp (length-append, length-take) (omega arith) in
      drop_at (take (first - 1) s ++ f) (drop last s) last w

  -- columns before them
  pub columns_before_lem : (a z : ℕ) → 1 ≤ a → a ≤ z + 1 → z < first → columns a z (placed first last f s) ≡ columns a z s
  columns_before_lem a z l o h =
      let w : a - 1 + (z + 1 - a) ≤ first - 1 = omega arith in
      sym (part_of_front (z + 1 - a) (a - 1) (first - 1) (placed first last f s) w)
      ∙ ap (λ (x : List ℕ). take (z + 1 - a) (drop (a - 1) x)) take_before
      ∙ part_of_front (z + 1 - a) (a - 1) (first - 1) s w

  -- columns behind them
  pub columns-behind : (a z : ℕ) → last < a → columns a z (placed first last f s) ≡ columns a z s
  columns-behind a z h =
      let w : last + (a - 1 - last) ≡ a - 1 = omega arith in
      let g : (x : List ℕ) → drop (a - 1) x ≡ drop (a - 1 - last) (drop last x) = λ x. sym (drop-drop (a - 1 - last) last x ∙ ap (λ (k : ℕ). drop k x) w) in
      ap (take (z + 1 - a)) (g (placed first last f s) ∙ ap (drop (a - 1 - last)) drop-behind ∙ sym (g s))

-- ---- digits

module _ (n : ℕ) (s : List ℕ) (t : are_digits n s ≡ true) where
  pub digits_width : length s ≡ n
  unfolding are_digits
  digits_width = eqb-true (length s) n (and_left (eqb (length s) n) (all_digits s) t)

  pub digits_all : all_digits s ≡ true
  unfolding are_digits
  digits_all = and_right (eqb (length s) n) (all_digits s) t

  -- columns of digits are digits
  pub digits_columns : (first last : ℕ) → all_digits (columns first last s) ≡ true
  unfolding all_digits
  digits_columns first last = every-columns is_digit first last s digits_all

  pub digits_inside : (first last : ℕ) → 1 ≤ first → first ≤ last + 1 → last ≤ n → Inside first last s
  digits_inside first last l o h = record { low = l; ordered = o; high = omega (arith, digits_width) }

-- columns of a digit field are digits
pub digits_part : (first last : ℕ) (s : List ℕ) → all_digits s ≡ true → all_digits (columns first last s) ≡ true
unfolding all_digits
digits_part first last s t = every-columns is_digit first last s t
