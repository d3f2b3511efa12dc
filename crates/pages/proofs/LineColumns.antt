-- The columns of a page's lines: the fields stand one behind the other, so each stands in the columns behind the widths of those before
-- it. Assumes nothing.
use Prim.Native.Nat.{ℕ}
use mathlib.Core.Path.{◌≡◌, refl, ap, ◌∙◌}
use mathlib.Core.List.{List, [], ◌∷◌, map}
use native.Mathlib.Omega.{arith}
use lib.Dec.{lit≤}
use lib.Count.{ones-le}
use lib.ListN.{length, get_or}
use Rattle.text.specs.Fields.{digit_field, number, spaces}
use Rattle.text.proofs.NumberLaws.{length_digits, number_digits}
use Rattle.text.proofs.PartsLaws.{columns-appended, length-appended}
use Rattle.casemaster.specs.Row.{row_key, row_local_code, row_last_name, row_first_name, row_arrearage, row_exclusions}
use Rattle.casemaster.proofs.SoundLaws.{row-columns}
use Rattle.pages.specs.Forms.{page_digits, bits_set, case_line, heading, foot}
use Rattle.pages.specs.Columns.{IsLine, IsHeading, IsFoot}

module _ (row : List ℕ) (wide : length row ≡ 200) where
  -- the fields behind the key
  abbrev others : List (List ℕ)
  others =
      spaces 1 ∷ row_local_code row ∷ spaces 1 ∷ row_last_name row ∷ spaces 1 ∷ row_first_name row ∷ spaces 1 ∷ row_arrearage row ∷ spaces 1
      ∷ digit_field 1 (bits_set row) ∷ spaces 68 ∷ []

  abbrev widths : List ℕ
  widths = 12 ∷ 1 ∷ 3 ∷ 1 ∷ 20 ∷ 1 ∷ 15 ∷ 1 ∷ 8 ∷ 1 ∷ 1 ∷ 68 ∷ []

  line_widths : map length (row_key row ∷ others) ≡ widths
  line_widths =
      rw (
        row-columns row wide 1 12 (lit≤ tt) (lit≤ tt) (lit≤ tt),
        row-columns row wide 13 15 (lit≤ tt) (lit≤ tt) (lit≤ tt),
        row-columns row wide 31 50 (lit≤ tt) (lit≤ tt) (lit≤ tt),
        row-columns row wide 51 65 (lit≤ tt) (lit≤ tt) (lit≤ tt),
        row-columns row wide 66 73 (lit≤ tt) (lit≤ tt) (lit≤ tt),
        length_digits 1 (bits_set row),
      )
      refl

  pub line-columns : IsLine row (case_line row)
  unfolding case_line
  line-columns =
      let at = columns-appended widths (row_key row) others line_widths in
      record {
        wide = length-appended widths (row_key row) others line_widths;
        key = at 0;
        behind_key = at 1;
        local_code = at 2;
        behind_code = at 3;
        last_name = at 4;
        behind_last = at 5;
        first_name = at 6;
        behind_first = at 7;
        arrearage = at 8;
        behind_arrearage = at 9;
        bits = at 10;
        bits_counted = λ h. ap number (at 10) ∙ number_digits 1 (bits_set row) (omega (arith, ones-le 8 (get_or (row_exclusions row) 0 0) h));
        filler = at 11;
      }

pub heading-columns : (number : ℕ) → IsHeading number (heading number)
unfolding heading page_digits digit_field
heading-columns number = record { wide = refl; word = refl; behind_word = refl; digits = refl; filler = refl }

pub foot-columns : (lines : ℕ) → IsFoot lines (foot lines)
unfolding foot digit_field
foot-columns lines = record { wide = refl; word = refl; behind_word = refl; digits = refl; filler = refl }
