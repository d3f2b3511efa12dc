-- The code page: what the list of characters says of a byte, its tables say too, and its two codes undo each other. Assumes nothing.
use Prim.Native.Nat.{ℕ, ◌<◌}
use mathlib.Core.Path.{◌≡◌, refl, sym, ap, ◌∙◌, fun_ext}
use mathlib.Core.Bool.{Bool, true, false, cond, ◌&&◌, ◌||◌}
use mathlib.Core.List.{List, [], ◌∷◌}
use mathlib.Core.Option.{Option, some}
use native.Mathlib.Omega.{arith}
use lib.Dec.{eqb, ltb}
use lib.ListN.{get_or}
use borrow.Author.Tests.{eqb-true, ltb-true, ne_eqb}
use Rattle.text.proofs.FieldsLaws.{and_left, and_right}
use Rattle.codepage.specs.CodePage.{Character, characters, code_among, ebcdic_of, ascii_of}
use Rattle.codepage.specs.Tables.{table_from, table_of, code_in, Undoes, InverseTables}
use Rattle.codepage.specs.Conversion.{ConversionOutcome, conversion_outcome}
use Rattle.codepage.proofs.TablesLaws.{every_from, each, length_table, code_some, IsCode, Bytewise, entry_said, table_says}

-- ---- a code that the list gives is a character's

abbrev every_character : (Character → Bool) → List Character → Bool
every_character f [] = true
every_character f (x ∷ xs) = f x && every_character f xs

module _ (f : Character → Bool) (this other : Character → ℕ) (b c : ℕ) where
  -- a character that passes the test and has the two codes
  record Given : Type 0 where
    character : Character
    passed : f character ≡ true
    this_is : this character ≡ b
    other_is : other character ≡ c

  given_step : (x : Character) (rest : Option ℕ) (same : Bool) → eqb (this x) b ≡ same → f x ≡ true → (rest ≡ some c → Given)
      → cond same (some (other x)) rest ≡ some c → Given
  given_step x rest true s t behind e = record { character = x; passed = t; this_is = eqb-true (this x) b s; other_is = cc }
  given_step x rest false s t behind e = behind e

  given : (cs : List Character) → every_character f cs ≡ true → code_among this other cs b ≡ some c → Given
  unfolding code_among
  given [] t e = let z : ◌≡◌ {A = ℕ} 0 1 = cc in absurd (omega arith)
  given (x ∷ xs) t e =
      given_step x (code_among this other xs b) (eqb (this x) b) refl (and_left (f x) (every_character f xs) t)
      (given xs (and_right (f x) (every_character f xs) t)) e

-- ---- every code of the list is a byte other than 0, by one test

abbrev is_code : ℕ → Bool
is_code n = ltb 0 n && ltb n 256

is_code_lem : (n : ℕ) → is_code n ≡ true → IsCode n
is_code_lem n t = (ltb-true 0 n (and_left (ltb 0 n) (ltb n 256) t), ltb-true n 256 (and_right (ltb 0 n) (ltb n 256) t))

module _ (this other : Character → ℕ) where
  abbrev has_codes : Character → Bool
  has_codes x = is_code (this x) && is_code (other x)

  bytewise : (cs : List Character) → every_character has_codes cs ≡ true → Bytewise (code_among this other cs)
  bytewise cs t b c e =
      let g = given has_codes this other b c cs t e in
      let x = g.character in
      let l = and_left (is_code (this x)) (is_code (other x)) g.passed in
      let r = and_right (is_code (this x)) (is_code (other x)) g.passed in
      (is_code_lem b (rw g.this_is at l), is_code_lem c (rw g.other_is at r))

pub ebcdic_bytewise : Bytewise ebcdic_of
unfolding ebcdic_of characters
ebcdic_bytewise = bytewise (λ x. x.ascii) (λ x. x.ebcdic) characters refl

pub ascii_bytewise : Bytewise ascii_of
unfolding ascii_of characters
ascii_bytewise = bytewise (λ x. x.ebcdic) (λ x. x.ascii) characters refl

-- ---- a call by the table is a call by the list

pub outcome_by_table : (code : ℕ → Option ℕ) → Bytewise code → (table input out : List ℕ) (o : ConversionOutcome)
    → o ≡ conversion_outcome (code_in table) input out → table ≡ table_of code → o ≡ conversion_outcome code input out
outcome_by_table code w table input out o is e =
    is ∙ ap (λ (f : ℕ → Option ℕ). conversion_outcome f input out) (ap code_in e ∙ fun_ext (table_says code w))

-- ---- the two tables are inverse, by one test

abbrev is_undone : List ℕ → ℕ → ℕ → Bool
is_undone back b entry = eqb entry 0 || eqb (get_or back entry 0) b

abbrev are_undone : List ℕ → List ℕ → Bool
are_undone back there = every_from (is_undone back) 0 there

tables_tested : (are_undone (table_of ascii_of) (table_of ebcdic_of) && are_undone (table_of ebcdic_of) (table_of ascii_of)) ≡ true
unfolding characters code_among ebcdic_of ascii_of table_from table_of
tables_tested = refl

undone_entry : (back : List ℕ) (b entry : ℕ) → is_undone back b entry ≡ true → 0 < entry → get_or back entry 0 ≡ b
undone_entry back b entry t h =
    let n : eqb entry 0 ≡ false = ne_eqb entry 0 (λ e. omega arith) in
    eqb-true (get_or back entry 0) b (rw n at t)

undoes : (there back : ℕ → Option ℕ) → are_undone (table_of back) (table_of there) ≡ true → Undoes (table_of back) (table_of there)
undoes there back t b h z =
    undone_entry (table_of back) b (get_or (table_of there) b 0) (each (is_undone (table_of back)) (table_of there) t b (omega (arith, length_table there))) z

pub inverse_tables : InverseTables
inverse_tables =
    record {
      from_ascii = undoes ebcdic_of ascii_of (and_left (are_undone (table_of ascii_of) (table_of ebcdic_of)) (are_undone (table_of ebcdic_of) (table_of ascii_of)) tables_tested);
      from_ebcdic = undoes ascii_of ebcdic_of (and_right (are_undone (table_of ascii_of) (table_of ebcdic_of)) (are_undone (table_of ebcdic_of) (table_of ascii_of)) tables_tested);
    }

-- ---- and so are the two codes

pub undoes_code : (there back : ℕ → Option ℕ) → Bytewise there → Bytewise back → Undoes (table_of back) (table_of there)
    → (b c : ℕ) → there b ≡ some c → back c ≡ some b
undoes_code there back w v u b c e =
    let i = w b c e in
    let entry = entry_said there w b c e in
    let r = rw entry at (u b i.0.1 (omega arith)) in
    sym (table_says back v c) ∙ code_some (table_of back) c (λ n. omega arith) ∙ ap some r
