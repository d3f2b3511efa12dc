-- Document 01, error 14: a right ZIP, over its nine columns. Assumes nothing.
use Rattle.std.specs.Prelude.{ℕ, List, Bool, ◌&&◌, ◌||◌, eqb, length}
use Rattle.text.specs.Fields.{columns, is_blank, all_digits}

-- a right ZIP is nine digits, or five and four spaces
unfoldable pub is_zip : List ℕ → Bool
is_zip s = eqb (length s) 9 && (all_digits s || all_digits (columns 1 5 s) && is_blank (columns 6 9 s))
