-- Document 02, item 1, the characters: the letters, digits, space and `-,.()/&'#`, each with its ASCII code and its EBCDIC code, which is that of
-- the published code page 037. Letters are upper case alone: 46 characters. Assumes nothing.
use Rattle.std.specs.Prelude.{ℕ, List, [], ◌∷◌, cond, eqb}
use Rattle.std.proofs.Math.Option.{Option, none, some}

pub record Character : Type 0 where
  pub ascii : ℕ
  pub ebcdic : ℕ

-- the character with these two codes, ASCII first
abbrev coded : ℕ → ℕ → Character
coded ascii ebcdic = record { ascii = ascii; ebcdic = ebcdic }

unfoldable pub characters : List Character
characters =
    coded 0x41 0xC1 ∷  -- A
    coded 0x42 0xC2 ∷  -- B
    coded 0x43 0xC3 ∷  -- C
    coded 0x44 0xC4 ∷  -- D
    coded 0x45 0xC5 ∷  -- E
    coded 0x46 0xC6 ∷  -- F
    coded 0x47 0xC7 ∷  -- G
    coded 0x48 0xC8 ∷  -- H
    coded 0x49 0xC9 ∷  -- I
    coded 0x4A 0xD1 ∷  -- J
    coded 0x4B 0xD2 ∷  -- K
    coded 0x4C 0xD3 ∷  -- L
    coded 0x4D 0xD4 ∷  -- M
    coded 0x4E 0xD5 ∷  -- N
    coded 0x4F 0xD6 ∷  -- O
    coded 0x50 0xD7 ∷  -- P
    coded 0x51 0xD8 ∷  -- Q
    coded 0x52 0xD9 ∷  -- R
    coded 0x53 0xE2 ∷  -- S
    coded 0x54 0xE3 ∷  -- T
    coded 0x55 0xE4 ∷  -- U
    coded 0x56 0xE5 ∷  -- V
    coded 0x57 0xE6 ∷  -- W
    coded 0x58 0xE7 ∷  -- X
    coded 0x59 0xE8 ∷  -- Y
    coded 0x5A 0xE9 ∷  -- Z
    coded 0x30 0xF0 ∷  -- 0
    coded 0x31 0xF1 ∷  -- 1
    coded 0x32 0xF2 ∷  -- 2
    coded 0x33 0xF3 ∷  -- 3
    coded 0x34 0xF4 ∷  -- 4
    coded 0x35 0xF5 ∷  -- 5
    coded 0x36 0xF6 ∷  -- 6
    coded 0x37 0xF7 ∷  -- 7
    coded 0x38 0xF8 ∷  -- 8
    coded 0x39 0xF9 ∷  -- 9
    coded 0x20 0x40 ∷  -- space
    coded 0x2D 0x60 ∷  -- -
    coded 0x2C 0x6B ∷  -- ,
    coded 0x2E 0x4B ∷  -- .
    coded 0x28 0x4D ∷  -- (
    coded 0x29 0x5D ∷  -- )
    coded 0x2F 0x61 ∷  -- /
    coded 0x26 0x50 ∷  -- &
    coded 0x27 0x7D ∷  -- '
    coded 0x23 0x7B ∷  -- #
    []

-- what a list of characters says of a byte: the code on the other side of the character that has the byte on this side, or none
unfoldable pub code_among : (Character → ℕ) → (Character → ℕ) → List Character → ℕ → Option ℕ
code_among this other [] b = none
code_among this other (c ∷ cs) b = cond (eqb (this c) b) (some (other c)) (code_among this other cs b)

-- the EBCDIC code of the character with an ASCII code
unfoldable pub ebcdic_of : ℕ → Option ℕ
ebcdic_of b = code_among (λ c. c.ascii) (λ c. c.ebcdic) characters b

-- the ASCII code of the character with an EBCDIC code
unfoldable pub ascii_of : ℕ → Option ℕ
ascii_of b = code_among (λ c. c.ebcdic) (λ c. c.ascii) characters b
