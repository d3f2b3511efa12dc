-- Document 02, item 4: a text that a field contains, and the runs of letters in a field. Assumes nothing.
use Rattle.std.specs.Prelude.{ℕ, List, [], ◌∷◌, ◌++◌, Bool, false, cond, ◌||◌, length, take}
use Rattle.text.specs.Characters.{is_letter}
use Rattle.text.specs.Fields.{same_bytes, is_one_of, unless_empty}

-- the text stands at the front
unfoldable pub starts_with : List ℕ → List ℕ → Bool
starts_with text s = same_bytes (take (length text) s) text

-- contained as bytes: the text, which isn't empty, stands at some place; no word boundary is asked
unfoldable pub contains : List ℕ → List ℕ → Bool
contains text [] = false
contains text (b ∷ s) = starts_with text (b ∷ s) || contains text s

-- the runs of letters of the bytes that are left, where run is what has been read of one; any other byte or the field's end ends it
unfoldable pub runs_from : List ℕ → List ℕ → List (List ℕ)
runs_from run [] = unless_empty run []
runs_from run (b ∷ bs) = cond (is_letter b) (runs_from (run ++ b ∷ []) bs) (unless_empty run (runs_from [] bs))

-- the word is a whole run of letters of the field
unfoldable pub has_run : List ℕ → List ℕ → Bool
has_run word s = is_one_of word (runs_from [] s)
