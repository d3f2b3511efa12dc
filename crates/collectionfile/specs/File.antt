-- Document 02, item 6: the collection file, and its refusals in order. Assumes nothing.
use Rattle.std.specs.Prelude.{ℕ, ◌+◌, ◌-◌, ◌*◌, ◌/◌, ◌%◌, List, [], ◌∷◌, Bool, not, cond, ◌&&◌, ◌||◌, eqb, ltb, length, take, drop}
use Rattle.answers.specs.Answer.{refuse_if}
use Rattle.text.specs.Characters.{space, A, L, O, letter_t}
use Rattle.text.specs.Fields.{are_digits, number, same_bytes}
use Rattle.text.specs.Blocks.{blocks}
use Rattle.collectionfile.specs.Chart04.{line_width}
use Rattle.collectionfile.specs.Chart05.{last_control, last_adjustments, last_collections}
use Rattle.collectionfile.specs.Line.{collected, adjusted}

-- ---- the file: lines, then the last record

unfoldable pub line_count : List ℕ → ℕ
line_count file = length file / line_width - 1

unfoldable pub lines_in : List ℕ → List (List ℕ)
lines_in file = blocks line_width (line_count file) file

unfoldable pub last_in : List ℕ → List ℕ
last_in file = take line_width (drop (line_count file * line_width) file)

-- ---- refused, in order

-- 22: a file empty, no multiple of 240 or over 16,777,216 records: one more than the limit
unfoldable pub refusal22 : ℕ → List ℕ → Bool
refusal22 limit file = eqb (length file) 0 || not (eqb (length file % line_width) 0) || ltb (limit + 1) (length file / line_width)

-- TOTAL and four spaces
abbrev pub total_text : List ℕ
total_text = letter_t ∷ O ∷ letter_t ∷ A ∷ L ∷ space ∷ space ∷ space ∷ space ∷ []

-- the number of lines with an amount above zero (a bad one is zero)
unfoldable pub lines_above : (List ℕ → ℕ) → List (List ℕ) → ℕ
lines_above of [] = 0
lines_above of (line ∷ lines) = cond (ltb 0 (of line)) 1 0 + lines_above of lines

-- a number, in fifteen digits
unfoldable pub is_total : List ℕ → ℕ → Bool
is_total field n = are_digits 15 field && eqb (number field) n

-- 23: a last record whose 6–14 aren't TOTAL and four spaces or whose 35–49 and 50–64 aren't the numbers of lines with an adjustment and
-- with a collection above zero
unfoldable pub refusal23 : List ℕ → Bool
refusal23 file =
    not (same_bytes (last_control (last_in file)) total_text)
    || (not (is_total (last_adjustments (last_in file)) (lines_above adjusted (lines_in file)))
    || not (is_total (last_collections (last_in file)) (lines_above collected (lines_in file))))

-- 24: a line list shorter than the lines
unfoldable pub refusal24 : List ℕ → ℕ → Bool
refusal24 file room = ltb room (line_count file)

-- the first of 22, 23 and 24 that holds, 0 where none does
unfoldable pub file_refusal : ℕ → List ℕ → ℕ → ℕ
file_refusal limit file room = refuse_if (refusal22 limit file) 22 (refuse_if (refusal23 file) 23 (refuse_if (refusal24 file room) 24 0))
