-- Fields: columns of a record or a row, counted from 1, at any place and of any width. Assumes nothing.
use Rattle.std.specs.Prelude.{ℕ, zero, suc, ◌+◌, ◌-◌, ◌*◌, ◌/◌, ◌%◌, ◌^◌, ◌≤◌, List, [], ◌∷◌, ◌++◌, Bool, true, false, ◌&&◌, ◌||◌, length, take, drop, replicate, get_or, eqb}
use Rattle.text.specs.Characters.{is_byte, is_digit, space, zero_digit}

-- columns first to last of s
abbrev pub columns : ℕ → ℕ → List ℕ → List ℕ
columns first last s = take (last + 1 - first) (drop (first - 1) s)

-- the byte in column n
abbrev pub column : ℕ → List ℕ → ℕ
column n s = get_or s (n - 1) 0

-- s with f in columns first to last
abbrev pub placed : ℕ → ℕ → List ℕ → List ℕ → List ℕ
placed first last f s = take (first - 1) s ++ f ++ drop last s

-- columns first to last are columns of s
pub record Inside (first last : ℕ) (s : List ℕ) : Type 0 where
  pub low : 1 ≤ first
  pub ordered : first ≤ last + 1
  pub high : last ≤ length s

-- each element passes the test
abbrev pub every : {X : Type 0} → (X → Bool) → List X → Bool
every f [] = true
every f (x ∷ xs) = f x && every f xs

-- at least one byte passes the test
abbrev pub at_least_one : (ℕ → Bool) → List ℕ → Bool
at_least_one f [] = false
at_least_one f (b ∷ bs) = f b || at_least_one f bs

-- blank: every byte is a space
unfoldable pub is_blank : List ℕ → Bool
is_blank s = every (is_byte space) s

-- zero: every byte is the digit zero
unfoldable pub is_zero : List ℕ → Bool
is_zero s = every (is_byte zero_digit) s

unfoldable pub all_digits : List ℕ → Bool
all_digits s = every is_digit s

-- n digits
unfoldable pub are_digits : ℕ → List ℕ → Bool
are_digits n s = eqb (length s) n && all_digits s

-- the number that digits write, onto what stands before them
abbrev pub number_onto : ℕ → List ℕ → ℕ
number_onto n [] = n
number_onto n (b ∷ bs) = number_onto (n * 10 + (b - 0xF0)) bs

-- the number of a digit field
unfoldable pub number : List ℕ → ℕ
number s = number_onto 0 s

-- a number as a digit field of a given width: its lowest digits, the highest first
unfoldable pub digit_field : ℕ → ℕ → List ℕ
digit_field zero n = []
digit_field (suc width) n = (0xF0 + n / 10 ^ width % 10) ∷ digit_field width n

abbrev pub spaces : ℕ → List ℕ
spaces n = replicate n space

-- the same bytes
unfoldable pub same_bytes : List ℕ → List ℕ → Bool
same_bytes [] [] = true
same_bytes [] (y ∷ ys) = false
same_bytes (x ∷ xs) [] = false
same_bytes (x ∷ xs) (y ∷ ys) = eqb x y && same_bytes xs ys

-- one of a list of byte strings
unfoldable pub is_one_of : List ℕ → List (List ℕ) → Bool
is_one_of s [] = false
is_one_of s (t ∷ ts) = same_bytes s t || is_one_of s ts

-- a word before others, unless it is empty
abbrev pub unless_empty : List ℕ → List (List ℕ) → List (List ℕ)
unless_empty [] words = words
unless_empty (b ∷ word) words = (b ∷ word) ∷ words
