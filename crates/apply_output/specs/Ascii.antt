-- ASCII text as bytes, and the ASCII character of an EBCDIC byte. Assumes nothing.
use Rattle.std.specs.Prelude.{ℕ, List, [], ◌∷◌}
use Prim.Native.Char.{code}
use Prim.Native.String.{String, [] as no_text, ◌∷◌ as ◌then◌}
use Rattle.std.proofs.Math.Option.{get_or}
use Rattle.codepage.specs.CodePage.{ascii_of}

-- the bytes of a text
abbrev pub ascii : String → List ℕ
ascii no_text = []
ascii (c then s) = code c ∷ ascii s

-- the ASCII code of an EBCDIC byte by the code page; a question mark for a byte that has none
unfoldable pub ascii_letter : ℕ → ℕ
ascii_letter b = get_or (ascii_of b) 0x3F
