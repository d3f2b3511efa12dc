-- Laws of a row with another balance: its width, its key, its balance and its soundness; and of a row through a line. Assumes nothing.
use Prim.Native.Nat.{ℕ, ◌+◌, ◌-◌, ◌/◌, ◌%◌, ◌^◌, ◌≤◌, ◌<◌}
use mathlib.Core.Path.{◌≡◌, refl, ap, ◌∙◌}
use mathlib.Core.List.{List, [], ◌∷◌}
use mathlib.Core.Bool.{Bool, true, false, cond, ◌&&◌, and-false}
use native.Mathlib.Omega.{arith}
use borrow.Author.Tests.{eqb-true, eqb-false, le-leb, lt-leb}
use lib.Dec.{eqb, lit≤}
use lib.ListN.{length, get_or}
use lib.Seq.{take_all}
use Rattle.text.specs.Characters.{space, D}
use Rattle.text.specs.Fields.{columns, placed, is_zero, number, digit_field}
use Rattle.casemaster.specs.Row.{row_key, balance, is_live, is_sound_row}
use Rattle.text.proofs.NumberLaws.{length_digits, digits_digits, number_digits, number-not-zero}
use Rattle.text.proofs.ColumnsLaws.{Put, put, written, length-written, columns-written, columns_free, AllFit}
use Rattle.casemaster.proofs.SoundLaws.{sound_columns, written_sound}
use Rattle.collectionfile.specs.Line.{collected, adjusted, is_right}
use Rattle.posting.specs.Posting.{most, balance_after, is_posted_on, with_balance, posted_row}
use Rattle.posting.specs.Parts.{turn_of}
use Rattle.std.specs.Prelude.{Some, None}

-- ---- what is written

abbrev puts : ℕ → List Put
puts n =
    put 66 73 (digit_field 8 (n / 100)) ∷ put 196 196 (cond (eqb n 0) D space ∷ []) ∷ put 197 198 (digit_field 2 (n % 100)) ∷ []

fit : (n : ℕ) → AllFit 200 (puts n)
fit n = (
  record { low = lit≤ tt; wide = rw (length_digits 8 (n / 100)); high = lit≤ tt },
  (
    record { low = lit≤ tt; wide = refl; high = lit≤ tt },
    (record { low = lit≤ tt; wide = rw (length_digits 2 (n % 100)); high = lit≤ tt }, tt),
  ),
)

whole : (w n : ℕ) → columns 1 w (digit_field w n) ≡ digit_field w n
whole w n =
    let e : w + 1 - 1 ≡ w = omega arith in
    rw e (take_all w (digit_field w n) (omega (arith, length_digits w n)))

with_is : (n : ℕ) (row : List ℕ) → with_balance n row ≡ written (puts n) row
unfolding with_balance
with_is n row = refl

module _ (n : ℕ) (row : List ℕ) (l : length row ≡ 200) where
  pub with_width : length (with_balance n row) ≡ 200
  unfolding with_balance
  with_width = length-written 200 (puts n) row (fit n) l

  pub with_key : row_key (with_balance n row) ≡ row_key row
  unfolding with_balance
  with_key = columns_free 200 1 12 (lit≤ tt) (lit≤ tt) (puts n) row refl (fit n) l

  with_dollars : columns 66 73 (with_balance n row) ≡ digit_field 8 (n / 100)
  unfolding with_balance
  with_dollars = columns-written 200 66 73 (lit≤ tt) (lit≤ tt) (puts n) row refl (fit n) l ∙ whole 8 (n / 100)

  with_cents : columns 197 198 (with_balance n row) ≡ digit_field 2 (n % 100)
  unfolding with_balance
  with_cents = columns-written 200 197 198 (lit≤ tt) (lit≤ tt) (puts n) row refl (fit n) l ∙ whole 2 (n % 100)

  pub with_balance_lem : n ≤ most → balance (with_balance n row) ≡ n
  unfolding balance
  with_balance_lem h =
      let a : number (digit_field 8 (n / 100)) ≡ n / 100 = number_digits 8 (n / 100) (omega arith) in
      let b : number (digit_field 2 (n % 100)) ≡ n % 100 = number_digits 2 (n % 100) (omega arith) in
      rw (with_dollars, with_cents, a, b) (omega arith)

-- ---- both parts zero

not-zero : (w n : ℕ) → n < 10 ^ w → 1 ≤ n → is_zero (digit_field w n) ≡ false
not-zero w n h l = number-not-zero (digit_field w n) (omega (arith, number_digits w n h))

both_zero : (n : ℕ) → n ≤ most → (is_zero (digit_field 8 (n / 100)) && is_zero (digit_field 2 (n % 100))) ≡ eqb n 0
unfolding is_zero digit_field
both_zero n h = go (eqb n 0) refl (eqb (n / 100) 0) refl
  where
    go : (b : Bool) → eqb n 0 ≡ b → (d : Bool) → eqb (n / 100) 0 ≡ d
        → (is_zero (digit_field 8 (n / 100)) && is_zero (digit_field 2 (n % 100))) ≡ b
    go true e d f = let z : n ≡ 0 = eqb-true n 0 e in rw z
    go false e true f =
        let z : n / 100 ≡ 0 = eqb-true (n / 100) 0 f in
        rw (not-zero 2 (n % 100) (omega arith) (omega (arith, eqb-false n 0 e)), and-false (is_zero (digit_field 8 (n / 100))))
    go false e false f = rw (not-zero 8 (n / 100) (omega arith) (omega (arith, eqb-false (n / 100) 0 f)))

-- ---- a sound row

-- D where the balance is zero, else a space
status : (b : Bool) → cond b (eqb (get_or (cond b D space ∷ []) 0 0) D) (eqb (get_or (cond b D space ∷ []) 0 0) space) ≡ true
status true = refl
status false = refl

pub sound_with : (row : List ℕ) → length row ≡ 200 → is_sound_row row ≡ true → (n : ℕ) → n ≤ most → is_sound_row (with_balance n row) ≡ true
sound_with row l t n h =
    let s = sound_columns row t in
    rw (with_is n row)
    (written_sound (puts n) row (fit n) l refl
    record {
      key_sound = s.key_sound;
      local_digits = s.local_digits;
      name_right = s.name_right;
      name_letter = s.name_letter;
      arrearage_digits = rw (whole 8 (n / 100)) (digits_digits 8 (n / 100));
      year_digits = s.year_digits;
      payment_digits = s.payment_digits;
      status_right = rw (whole 8 (n / 100), whole 2 (n % 100), both_zero n h) (status (eqb n 0));
      cents_digits = rw (whole 2 (n % 100)) (digits_digits 2 (n % 100));
      filler-blank = s.filler-blank;
    })

-- ---- posted or not

module _ (line row : List ℕ) where
  pub not_right : is_right line ≡ false → is_posted_on line row ≡ false
  unfolding is_posted_on
  not_right h = rw h

  pub not_live : is_right line ≡ true → is_live row ≡ false → is_posted_on line row ≡ false
  unfolding is_posted_on
  not_live h k = rw (h, k)

  pub too_much : is_right line ≡ true → is_live row ≡ true → most < balance row + adjusted line → is_posted_on line row ≡ false
  unfolding is_posted_on
  too_much h k l = rw (h, k, lt-leb (balance row + adjusted line) most l)

  pub is_posted_lem : is_right line ≡ true → is_live row ≡ true → balance row + adjusted line ≤ most → is_posted_on line row ≡ true
  unfolding is_posted_on
  is_posted_lem h k l = rw (h, k, le-leb (balance row + adjusted line) most l)

  pub left_turn : is_posted_on line row ≡ false → None ≡ turn_of line row
  left_turn h = rw h

  pub posted_turn : (row' : List ℕ) (cents : ℕ) → row' ≡ with_balance cents row
      → cents ≡ balance row + adjusted line - collected line → is_posted_on line row ≡ true → Some row' ≡ turn_of line row
  unfolding posted_row balance_after
  posted_turn row' cents r e h = rw (h, ← e) (ap Some r)

-- ---- a balance written

pub balance-written : (n x y s : ℕ) (row a b r : List ℕ) → x ≡ n % 100 → y ≡ n / 100 → s ≡ cond (eqb n 0) D space
    → a ≡ placed 197 198 (digit_field 2 x) row → b ≡ placed 196 196 (s ∷ []) a → r ≡ placed 66 73 (digit_field 8 y) b → r ≡ with_balance n row
unfolding with_balance
balance-written n x y s row a b r ex ey es ea eb er = er ∙ rw (eb, ea, es, ey, ex)
