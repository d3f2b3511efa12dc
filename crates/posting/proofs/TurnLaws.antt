-- Laws of a line's turn: posted it rewrites one row and keeps the rows sound and rising; listed it leaves them. Assumes nothing.
use Prim.Native.Nat.{ℕ, ◌+◌, ◌≤◌}
use mathlib.Core.Path.{◌≡◌, refl, ◌∙◌}
use mathlib.Core.Logic.{◌⊎◌}
use mathlib.Core.List.{List, [], ◌∷◌}
use mathlib.Core.Bool.{Bool, true, false, ◌&&◌}
use mathlib.Core.Option.{Option, none, some}
use native.Mathlib.Omega.{arith}
use borrow.Author.Tests.{leb-true}
use lib.Dec.{leb}
use lib.ListN.{length}
use Rattle.casemaster.specs.Row.{row_key, balance, is_live, is_sound_row}
use Rattle.casemaster.specs.Rows.{row_with, with_row}
use Rattle.text.proofs.FieldsLaws.{and_right, and_left}
use Rattle.text.proofs.WidthLaws.{every_all}
use Rattle.casemaster.proofs.SearchLaws.{row_key_lem, with_sound}
use Rattle.casemaster.proofs.RowsLaws.{IsWide, Fit, each_some, found_all, all_put, each_sound}
use Rattle.collectionfile.specs.Line.{line_key, collected, adjusted, is_right}
use Rattle.collectionfile.proofs.AmountLaws
use Rattle.posting.specs.Posting.{most, balance_after, is_posted_on, posted_row, is_posted_in, after_line, after_lines}
use Rattle.posting.proofs.BalanceLaws.{with_width, with_key, with_balance_lem, sound_with}

-- ---- by whether the line is posted

pub data Turn (rows : List (List ℕ)) (line : List ℕ) : Type 0 where
  posted : (row : List ℕ) → row_with (line_key line) rows ≡ some row → is_posted_on line row ≡ true → is_posted_in rows line ≡ true
      → after_line rows line ≡ with_row (posted_row line row) rows → Turn rows line
  left : is_posted_in rows line ≡ false → after_line rows line ≡ rows → Turn rows line

pub turn : (rows : List (List ℕ)) (line : List ℕ) → Turn rows line
unfolding is_posted_in after_line
turn rows line = go (row_with (line_key line) rows) refl
  where
    by : (row : List ℕ) → row_with (line_key line) rows ≡ some row → (b : Bool) → is_posted_on line row ≡ b → Turn rows line
    by row e true t = posted row e t (rw e t) (rw (e, t))
    by row e false t = left (rw e t) (rw (e, t))

    go : (q : Option (List ℕ)) → row_with (line_key line) rows ≡ q → Turn rows line
    go none e = left (rw e) (rw e)
    go (some row) e = by row e (is_posted_on line row) refl

-- ---- a line posted on its row

-- one of the two amounts is zero
pub posted_one_zero : (line row : List ℕ) → is_posted_on line row ≡ true → (collected line ≡ 0) ⊎ (adjusted line ≡ 0)
unfolding is_posted_on
posted_one_zero line row t = AmountLaws.one_zero line (and_left (is_right line) (is_live row && leb (balance row + adjusted line) most) t)

-- no adjustment passes 99,999,999.99
pub not_past : (line row : List ℕ) → is_posted_on line row ≡ true → balance row + adjusted line ≤ most
unfolding is_posted_on
not_past line row t =
    leb-true (balance row + adjusted line) most (and_right (is_live row) _ (and_right (is_right line) _ t))

pub after-most : (line row : List ℕ) → is_posted_on line row ≡ true → balance_after (balance row) line ≤ most
unfolding balance_after
after-most line row t = omega (arith, not_past line row t)

module _ (rows : List (List ℕ)) (f : Fit rows) (line row : List ℕ) (e : row_with (line_key line) rows ≡ some row) where
  pub found_wide : length row ≡ 200
  found_wide = each_some IsWide (row_with (line_key line) rows) row (found_all IsWide (line_key line) rows f.wide) e

  pub found_sound : is_sound_row row ≡ true
  found_sound =
      each_some Sound (row_with (line_key line) rows) row
      (found_all Sound (line_key line) rows (every_all is_sound_row rows (each_sound rows f.sound))) e
    where
      Sound : List ℕ → Type 0
      Sound r = is_sound_row r ≡ true

  pub found_key : row_key row ≡ line_key line
  found_key = row_key_lem (line_key line) rows row e

  pub posted_key : row_key (posted_row line row) ≡ line_key line
  unfolding posted_row
  posted_key = with_key (balance_after (balance row) line) row found_wide ∙ found_key

  module _ (t : is_posted_on line row ≡ true) where
    pub posted-balance : balance (posted_row line row) ≡ balance_after (balance row) line
    unfolding posted_row
    posted-balance = with_balance_lem (balance_after (balance row) line) row found_wide (after-most line row t)

    posted_sound : is_sound_row (posted_row line row) ≡ true
    unfolding posted_row
    posted_sound = sound_with row found_wide found_sound (balance_after (balance row) line) (after-most line row t)

    pub rows_posted : Fit (with_row (posted_row line row) rows)
    unfolding posted_row
    rows_posted =
        record {
          wide = all_put IsWide (posted_row line row) rows (with_width (balance_after (balance row) line) row found_wide) f.wide;
          sound = with_sound (posted_row line row) rows f.sound posted_sound;
        }

-- ---- what each turn keeps

-- rows stay sound and rising
pub after_fit : (rows : List (List ℕ)) (line : List ℕ) → Fit rows → Fit (after_line rows line)
after_fit rows line f = go (turn rows line)
  where
    go : Turn rows line → Fit (after_line rows line)
    go (posted row e t p a) = rw a (rows_posted rows f line row e t)
    go (left p a) = rw a f

pub all_fit : (rows lines : List (List ℕ)) → Fit rows → Fit (after_lines rows lines)
unfolding after_lines
all_fit rows [] f = f
all_fit rows (line ∷ lines) f = all_fit (after_line rows line) lines (after_fit rows line f)
