-- Chart A-1, column 73: the ten transaction types, each by its letter. Assumes nothing.
use Rattle.std.specs.Prelude.{ℕ, List, ◌≡◌, ◌≢◌, Result, Option, MatchResult, MatchOption}
use Rattle.text.specs.Characters.{A, B, C, D, L, M, R, S, letter_t, Z}
use Rattle.layout.specs.Record.{type_of}
use Rattle.layout.specs.declared.record.TransactionType.{TransactionType}
use Rattle.layout.specs.declared.record.TransactionType.TheVariants.{Add, Rename, CaseId, Delete, LocalCode, Modify, Exclude, Payment, Transfer, Address}
use Rattle.layout.specs.declared.record.UnknownType.{UnknownType}

-- the letter of a type
abbrev pub type_byte : TransactionType → ℕ
type_byte Add = A
type_byte Rename = B
type_byte CaseId = C
type_byte Delete = D
type_byte LocalCode = L
type_byte Modify = M
type_byte Exclude = R
type_byte Payment = S
type_byte Transfer = letter_t
type_byte Address = Z

-- no type has a letter
pub record IsNoType (byte : ℕ) : Type 0 where
  pub is_other : (t : TransactionType) → type_byte t ≢ byte

-- the type with a letter, or an error that says which letter no type has
abbrev pub Decodes : ℕ → Result TransactionType UnknownType → Type 0
Decodes byte r = MatchResult r (λ t. type_byte t ≡ byte) (λ e. (e.0 ≡ byte) × IsNoType byte)

-- a record's type, or none where it is none of the ten
abbrev pub IsTypeOf : List ℕ → Option TransactionType → Type 0
IsTypeOf rec found = MatchOption found (IsNoType (type_of rec)) (λ t. type_byte t ≡ type_of rec)
