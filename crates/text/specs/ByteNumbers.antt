-- For the contracts of inner functions; no rule of the papers stands here.
-- Bytes as a number in base 256, in which byte strings of twelve are compared. Assumes nothing.
use Rattle.std.specs.Prelude.{List, [], ◌∷◌, ℕ, ◌+◌, ◌*◌, ◌<◌}

-- each is a byte
abbrev pub AreBytes : List ℕ → Type 0
AreBytes [] = Unit {0}
AreBytes (b ∷ bs) = (b < 256) × AreBytes bs

-- the number that bytes write, onto what stands before them; the first byte is the highest
abbrev pub bytes_onto : ℕ → List ℕ → ℕ
bytes_onto n [] = n
bytes_onto n (b ∷ bs) = bytes_onto (n * 256 + b) bs

unfoldable pub bytes_number : List ℕ → ℕ
bytes_number s = bytes_onto 0 s
