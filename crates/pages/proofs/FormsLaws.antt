-- Laws of the lines of a page, written field by field over spaces. Assumes nothing.
use Prim.Native.Nat.{ℕ, ◌+◌, ◌-◌}
use mathlib.Core.Path.{◌≡◌, refl, ◌∙◌}
use mathlib.Core.List.{List}
use lib.Count.{ones}
use lib.Dec.{lit≤}
use lib.ListN.{length, get_or}
use Rattle.text.specs.Fields.{columns, placed, digit_field, spaces}
use Rattle.text.proofs.FieldsLaws.{one_column}
use Rattle.text.proofs.ColumnsWritten.{written_none, written-field, written-columns, written_digits, written_kept}
use Rattle.pages.specs.Forms.{page_digits, case_line, CASES, TOTAL, heading, foot}

pub line_filled : (row : List ℕ) → length row ≡ 200 → (bits : ℕ) (s1 s2 s3 s4 s5 s6 : List ℕ)
    → s1 ≡ placed 1 12 (columns 1 12 row) (spaces 132)
    → s2 ≡ placed 14 16 (columns 13 15 row) s1
    → s3 ≡ placed 18 37 (columns 31 50 row) s2
    → s4 ≡ placed 39 53 (columns 51 65 row) s3
    → s5 ≡ placed 55 62 (columns 66 73 row) s4
    → bits ≡ ones (get_or row 194 0)
    → s6 ≡ placed 64 64 (digit_field 1 bits) s5
    → s6 ≡ case_line row
unfolding case_line
line_filled row w bits s1 s2 s3 s4 s5 s6 e1 e2 e3 e4 e5 eb e6 =
    let f1 = written-columns (written_none (spaces 132)) 1 12 200 1 12 row e1 w refl in
    let f2 = written_kept f1 13 13 refl (lit≤ tt) (lit≤ tt) in
    let f3 = written-columns f2 14 16 200 13 15 row e2 w refl in
    let f4 = written_kept f3 17 17 refl (lit≤ tt) (lit≤ tt) in
    let f5 = written-columns f4 18 37 200 31 50 row e3 w refl in
    let f6 = written_kept f5 38 38 refl (lit≤ tt) (lit≤ tt) in
    let f7 = written-columns f6 39 53 200 51 65 row e4 w refl in
    let f8 = written_kept f7 54 54 refl (lit≤ tt) (lit≤ tt) in
    let f9 = written-columns f8 55 62 200 66 73 row e5 w refl in
    let f10 = written_kept f9 63 63 refl (lit≤ tt) (lit≤ tt) in
    let f11 = written_digits f10 64 64 1 bits e6 refl refl (lit≤ tt) in
    f11.is ∙ rw (eb, one_column 195 row (lit≤ tt))

pub heading_filled : (number : ℕ) (s1 s2 : List ℕ)
    → s1 ≡ placed 1 5 CASES (spaces 132)
    → s2 ≡ placed 7 (6 + page_digits) (digit_field (6 + page_digits + 1 - 7) number) s1
    → s2 ≡ heading number
unfolding heading page_digits
heading_filled number s1 s2 e1 e2 =
    let f1 = written-field (written_none (spaces 132)) 1 5 CASES e1 refl refl (lit≤ tt) in
    let f2 = written_kept f1 6 6 refl (lit≤ tt) (lit≤ tt) in
    (written_digits f2 7 (6 + page_digits) page_digits number e2 refl refl (lit≤ tt)).is

pub foot_filled : (lines : ℕ) (s1 s2 : List ℕ)
    → s1 ≡ placed 1 5 TOTAL (spaces 132)
    → s2 ≡ placed 7 10 (digit_field 4 lines) s1
    → s2 ≡ foot lines
unfolding foot
foot_filled lines s1 s2 e1 e2 =
    let f1 = written-field (written_none (spaces 132)) 1 5 TOTAL e1 refl refl (lit≤ tt) in
    let f2 = written_kept f1 6 6 refl (lit≤ tt) (lit≤ tt) in
    (written_digits f2 7 10 4 lines e2 refl refl (lit≤ tt)).is
