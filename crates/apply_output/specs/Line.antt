-- Document 01, "The printed line": what is printed, in ASCII, with one line feed at its end. Assumes nothing.
use Rattle.std.specs.Prelude.{ℕ, ◌+◌, ◌≡◌, List, ◌++◌, map, length, take, drop}
use Prim.Native.String.{String}
use Rattle.answers.specs.Answer.{Answer, refused, done}
use Rattle.batch.specs.Apply.{ApplyResult}
use Rattle.apply_output.specs.Ascii.{ascii, ascii_letter}
use Rattle.apply_output.specs.Decimal.{decimal}

-- the state of the control record as two letters
unfoldable pub letters : List ℕ → List ℕ
letters state = map ascii_letter state

-- a word and its number
abbrev pub item : String → ℕ → List ℕ
item word n = ascii word ++ decimal n

-- the counts over both case types
unfoldable pub count_items : (accepted rejected warned : ℕ) → List ℕ
count_items accepted rejected warned = item " accepted " accepted ++ item " rejected " rejected ++ item " warned " warned

-- a run that is carried out: state and the five numbers of the result
unfoldable pub done_line : List ℕ → (accepted rejected warned neither rows : ℕ) → List ℕ
done_line state accepted rejected warned neither rows =
    letters state ++ count_items accepted rejected warned
    ++ item " neither " neither ++ item " rows " rows ++ ascii "\n"

-- a refusal: `refused` and its number
unfoldable pub refused_line : ℕ → List ℕ
refused_line n = item "refused " n ++ ascii "\n"

-- the line of each answer
abbrev pub line_of : List ℕ → Answer ApplyResult → List ℕ
line_of state (done r) = done_line state r.accepted r.rejected r.warned r.neither r.rows
line_of state (refused n) = refused_line n

-- a text now stands in a buffer behind its first `at` bytes and ends at `end`; the bytes behind it are kept
pub record Appended (before : List ℕ) (at : ℕ) (text after : List ℕ) (end : ℕ) : Type 0 where
  pub bytes : take end after ≡ take at before ++ text
  pub ends : end ≡ at + length text
  pub kept : drop end after ≡ drop end before
