-- Document 02, item 1: a table of 256 entries each way gives the code or says there is none. Assumes nothing.
use Rattle.std.specs.Prelude.{ℕ, zero, suc, ◌<◌, ◌≡◌, List, [], ◌∷◌, cond, eqb, get_or}
use Rattle.std.proofs.Math.Option.{Option, none, some}
use Rattle.text.specs.Options.{or_zero}
use Rattle.codepage.specs.CodePage.{ebcdic_of, ascii_of}

-- the entries of n bytes from b on: an entry is the code, or 0 where there is none
unfoldable pub table_from : (ℕ → Option ℕ) → ℕ → ℕ → List ℕ
table_from code b zero = []
table_from code b (suc n) = or_zero (code b) ∷ table_from code (suc b) n

-- the table of what is said of each byte
unfoldable pub table_of : (ℕ → Option ℕ) → List ℕ
table_of code = table_from code 0 256

-- what an entry says, and what a table says of a byte
abbrev pub code_by : ℕ → Option ℕ
code_by entry = cond (eqb entry 0) none (some entry)

unfoldable pub code_in : List ℕ → ℕ → Option ℕ
code_in table b = code_by (get_or table b 0)

-- the entries of the bytes, in their order
unfoldable pub entries_of : List ℕ → List ℕ → List ℕ
entries_of table [] = []
entries_of table (b ∷ bs) = get_or table b 0 ∷ entries_of table bs

-- each byte that has a counterpart is the counterpart's own
abbrev pub Undoes : List ℕ → List ℕ → Type 0
Undoes back there = (b : ℕ) → b < 256 → 0 < get_or there b 0 → get_or back (get_or there b 0) 0 ≡ b

-- the two tables are inverse on the accepted characters
pub record InverseTables : Type 0 where
  pub from_ascii : Undoes (table_of ascii_of) (table_of ebcdic_of)
  pub from_ebcdic : Undoes (table_of ebcdic_of) (table_of ascii_of)
