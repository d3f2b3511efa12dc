-- For the contracts of inner functions; no rule of the papers stands here.
-- Where a word of an exclusion field can end, and the parts of the eight words. Assumes nothing.
use Rattle.std.specs.Prelude.{ℕ, ◌+◌, ◌*◌, List, Bool, ◌&&◌, cond, leb, length, get_or, take, drop}
use Rattle.text.specs.Characters.{space}
use Rattle.exclusionsets.specs.Exclusions.{is_separator}
use Rattle.exclusionsets.specs.declared.exclusions.Word.{Word}

-- a word can end before the byte at i: a separator, or the field's end
abbrev pub can_end : List ℕ → ℕ → Bool
can_end s i = leb i (length s) && is_separator (get_or s i space)

abbrev pub letters_of : Word → List ℕ
letters_of word = word.letters

abbrev pub bits_of : Word → ℕ
bits_of word = word.bits

-- three letters as a number, the first the highest
abbrev pub letters_number : List ℕ → ℕ
letters_number letters = (get_or letters 0 0 * 256 + get_or letters 1 0) * 256 + get_or letters 2 0

-- the number of the three letters from i on where a word can end behind them; else 0, which is no word's number
abbrev pub word_number : List ℕ → ℕ → ℕ
word_number s i = cond (can_end s (i + 3)) (letters_number (take 3 (drop i s))) 0
