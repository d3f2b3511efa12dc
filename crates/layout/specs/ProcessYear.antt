-- Document 01, error 13, over the four columns of a process year. Assumes nothing.
use Rattle.std.specs.Prelude.{ℕ, ◌+◌, List, Bool, ◌&&◌, leb}
use Rattle.text.specs.Fields.{are_digits, number}

-- four digits Y with year − 7 ≤ Y ≤ year; the first bound is written so that nothing goes below zero
unfoldable pub in_window : ℕ → List ℕ → Bool
in_window year s = are_digits 4 s && (leb year (number s + 7) && leb (number s) year)
