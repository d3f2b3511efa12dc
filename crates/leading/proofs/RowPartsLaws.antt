-- A row by its parts: rows that agree on each are one; the status of a sound row, and fields of digits and of zeros. Assumes nothing.
use Prim.Native.Nat.{ℕ, suc, ◌+◌, ◌-◌, ◌≤◌, ◌<◌}
use mathlib.Core.Path.{◌≡◌, refl, sym, ap, ◌∙◌}
use mathlib.Core.List.{List, [], ◌∷◌, ◌++◌}
use mathlib.Core.Bool.{Bool, true, false, cond, ◌&&◌, false≢true}
use native.Mathlib.Omega.{arith}
use borrow.Author.Tests.{eqb-true}
use lib.Dec.{eqb, lit≤}
use lib.ListN.{length, get_or, replicate, take, drop, take-append-drop}
use lib.Seq.{take_all, take-add}
use Rattle.text.specs.Characters.{is_digit, space, zero_digit, D}
use Rattle.text.specs.Fields.{columns, placed, is_blank, is_zero, all_digits}
use Rattle.text.proofs.FieldsLaws.{and_left, and_right, length-columns}
use Rattle.text.proofs.ColumnsLaws.{columns_split}
use Rattle.casemaster.specs.Row.{is_live, is_sound_row}
use Rattle.casemaster.proofs.SoundLaws.{sound_columns}

-- ---- the parts

abbrev row_parts : List ℕ → List ℕ
row_parts x =
    columns 1 12 x
    ++ (columns 13 15 x
    ++ (columns 16 30 x
    ++ (columns 31 65 x
    ++ (columns 66 73 x
    ++ (columns 74 194 x ++ (columns 195 195 x ++ (columns 196 196 x ++ (columns 197 198 x ++ columns 199 200 x))))))))

row_in_parts : (x : List ℕ) → length x ≡ 200 → x ≡ row_parts x
row_in_parts x w =
    let s1 = columns_split 1 12 200 x (lit≤ tt) (lit≤ tt) (lit≤ tt) in
    let s2 = columns_split 13 15 200 x (lit≤ tt) (lit≤ tt) (lit≤ tt) in
    let s3 = columns_split 16 30 200 x (lit≤ tt) (lit≤ tt) (lit≤ tt) in
    let s4 = columns_split 31 65 200 x (lit≤ tt) (lit≤ tt) (lit≤ tt) in
    let s5 = columns_split 66 73 200 x (lit≤ tt) (lit≤ tt) (lit≤ tt) in
    let s6 = columns_split 74 194 200 x (lit≤ tt) (lit≤ tt) (lit≤ tt) in
    let s7 = columns_split 195 195 200 x (lit≤ tt) (lit≤ tt) (lit≤ tt) in
    let s8 = columns_split 196 196 200 x (lit≤ tt) (lit≤ tt) (lit≤ tt) in
    let s9 = columns_split 197 198 200 x (lit≤ tt) (lit≤ tt) (lit≤ tt) in
    sym (take_all 200 x (omega arith))
    ∙ s1
    ∙ ap (λ (z : List ℕ). columns 1 12 x ++ z)
    (s2
    ∙ ap (λ (z : List ℕ). columns 13 15 x ++ z)
    (s3
    ∙ ap (λ (z : List ℕ). columns 16 30 x ++ z)
    (s4
    ∙ ap (λ (z : List ℕ). columns 31 65 x ++ z)
    (s5
    ∙ ap (λ (z : List ℕ). columns 66 73 x ++ z)
    (s6
    ∙ ap (λ (z : List ℕ). columns 74 194 x ++ z)
    (s7 ∙ ap (λ (z : List ℕ). columns 195 195 x ++ z) (s8 ∙ ap (λ (z : List ℕ). columns 196 196 x ++ z) s9)))))))

-- two rows that agree on each
pub record SameParts (x y : List ℕ) : Type 0 where
  pub key : columns 1 12 x ≡ columns 1 12 y
  pub local : columns 13 15 x ≡ columns 13 15 y
  pub id : columns 16 30 x ≡ columns 16 30 y
  pub names : columns 31 65 x ≡ columns 31 65 y
  pub arrearage : columns 66 73 x ≡ columns 66 73 y
  pub middle : columns 74 194 x ≡ columns 74 194 y
  pub set : columns 195 195 x ≡ columns 195 195 y
  pub status : columns 196 196 x ≡ columns 196 196 y
  pub cents : columns 197 198 x ≡ columns 197 198 y
  pub filler : columns 199 200 x ≡ columns 199 200 y

pub same_row : (x y : List ℕ) → length x ≡ 200 → length y ≡ 200 → SameParts x y → x ≡ y
same_row x y w v s =
    row_in_parts x w
    ∙ rw (s.key, s.local, s.id, s.names, s.arrearage, s.middle, s.set, s.status, s.cents, s.filler) (sym (row_in_parts y v))

-- ---- columns of a row

pub row_width_lem : (row : List ℕ) (a z : ℕ) → length row ≡ 200 → 1 ≤ a → a ≤ z + 1 → z ≤ 200 → length (columns a z row) ≡ z + 1 - a
row_width_lem row a z w l o h = length-columns a z row (record { low = l; ordered = o; high = omega arith })

-- one byte
pub one_byte : (s : List ℕ) → length s ≡ 1 → s ≡ get_or s 0 0 ∷ []
one_byte [] e = absurd (omega (arith, e))
one_byte (b ∷ []) e = refl
one_byte (b ∷ (c ∷ s)) e = absurd (let f : suc (suc (length s)) ≡ 1 = e in omega arith)

-- ---- the status of a sound row

abbrev pub status_of : Bool → List ℕ
status_of zero = cond zero D space ∷ []

status_byte : (zero : Bool) (b : ℕ) → cond zero (eqb b D) (eqb b space) ≡ true → b ≡ cond zero D space
status_byte true b t = eqb-true b D t
status_byte false b t = eqb-true b space t

pub status_column : (row : List ℕ) → length row ≡ 200 → is_sound_row row ≡ true
    → columns 196 196 row ≡ status_of (is_zero (columns 66 73 row) && is_zero (columns 197 198 row))
status_column row w t =
    let s = sound_columns row t in
    let e = status_byte (is_zero (columns 66 73 row) && is_zero (columns 197 198 row)) (get_or (columns 196 196 row) 0 0) s.status_right in
    one_byte (columns 196 196 row) (row_width_lem row 196 196 w (lit≤ tt) (lit≤ tt) (lit≤ tt)) ∙ ap (λ (b : ℕ). b ∷ []) e

pub live_column : (row : List ℕ) → length row ≡ 200 → is_live row ≡ true → columns 196 196 row ≡ space ∷ []
unfolding is_live
live_column row w t =
    one_byte (columns 196 196 row) (row_width_lem row 196 196 w (lit≤ tt) (lit≤ tt) (lit≤ tt))
    ∙ ap (λ (b : ℕ). b ∷ []) (eqb-true (get_or (columns 196 196 row) 0 0) space t)

-- ---- digits and zeros

pub digits_not_blank : (s : List ℕ) → 0 < length s → all_digits s ≡ true → is_blank s ≡ false
unfolding all_digits is_digit is_blank
digits_not_blank [] h t = absurd (omega (arith, h))
digits_not_blank (b ∷ s) h t = go (eqb b space) refl
  where
    go : (e : Bool) → eqb b space ≡ e → (e && is_blank s) ≡ false
    go true e = let f = eqb-true b space e in absurd (false≢true (rw f at t))
    go false e = refl

pub zero_is : (s : List ℕ) → is_zero s ≡ true → s ≡ replicate (length s) zero_digit
unfolding is_zero
zero_is [] t = refl
zero_is (b ∷ s) t =
    let f = eqb-true b zero_digit (and_left (eqb b zero_digit) _ t) in
    rw f (ap (λ (z : List ℕ). zero_digit ∷ z) (zero_is s (and_right (eqb b zero_digit) _ t)))

-- ---- columns placed where they stood

pub placed_own : (first last : ℕ) (s : List ℕ) → 1 ≤ first → first ≤ last + 1 → placed first last (columns first last s) s ≡ s
placed_own first last s l o =
    let e : last ≡ (first - 1) + (last + 1 - first) = omega arith in
    let t = take-add (first - 1) (last + 1 - first) s in
    rw (← t) (ap (λ (n : ℕ). take ((first - 1) + (last + 1 - first)) s ++ drop n s) e ∙ take-append-drop ((first - 1) + (last + 1 - first)) s)
