-- Laws of the year in year.txt: by its length and by its four bytes. Assumes nothing.
use mathlib.Core.Path.{◌≡◌, refl, ap, ◌∙◌}
use mathlib.Core.Bool.{true, false}
use mathlib.Core.List.{List, [], ◌∷◌}
use mathlib.Core.Option.{none, some}
use Prim.Native.Nat.{ℕ}
use native.Mathlib.Omega.{arith}
use lib.ListN.{length, get_or}
use borrow.Author.Tests.{ne_eqb}
use Rattle.text.specs.Fields.{every}
use Rattle.apply_files.specs.Year.{is_ascii_digit, ascii_number_onto, year_in}

pub four_bytes_lem : (s : List ℕ) → length s ≡ 4 → s ≡ get_or s 0 0 ∷ get_or s 1 0 ∷ get_or s 2 0 ∷ get_or s 3 0 ∷ []
four_bytes_lem [] e = absurd (omega arith)
four_bytes_lem (a ∷ []) e = absurd (omega arith)
four_bytes_lem (a ∷ b ∷ []) e = absurd (omega arith)
four_bytes_lem (a ∷ b ∷ c ∷ []) e = absurd (omega arith)
four_bytes_lem (a ∷ b ∷ c ∷ d ∷ []) e = refl
four_bytes_lem (a ∷ b ∷ c ∷ d ∷ x ∷ xs) e = absurd (omega arith)

pub wrong_length : (s : List ℕ) → (length s ≡ 4 → ⊥) → none ≡ year_in s
unfolding year_in
wrong_length s h = rw (ne_eqb (length s) 4 h)

module _ (s : List ℕ) (e : length s ≡ 4) where
  pub no_digits : every is_ascii_digit (get_or s 0 0 ∷ get_or s 1 0 ∷ get_or s 2 0 ∷ get_or s 3 0 ∷ []) ≡ false → none ≡ year_in s
  unfolding year_in
  no_digits h = let d : every is_ascii_digit s ≡ false = ap (every is_ascii_digit) (four_bytes_lem s e) ∙ h in rw (e, d)

  pub four_digits : every is_ascii_digit (get_or s 0 0 ∷ get_or s 1 0 ∷ get_or s 2 0 ∷ get_or s 3 0 ∷ []) ≡ true
      → some (ascii_number_onto 0 (get_or s 0 0 ∷ get_or s 1 0 ∷ get_or s 2 0 ∷ get_or s 3 0 ∷ [])) ≡ year_in s
  unfolding year_in
  four_digits h =
      let d : every is_ascii_digit s ≡ true = ap (every is_ascii_digit) (four_bytes_lem s e) ∙ h in
      let n : ascii_number_onto 0 s ≡ ascii_number_onto 0 (get_or s 0 0 ∷ get_or s 1 0 ∷ get_or s 2 0 ∷ get_or s 3 0 ∷ []) = ap (ascii_number_onto 0) (four_bytes_lem s e) in
      rw (e, d, n)
