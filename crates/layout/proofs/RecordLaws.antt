-- Laws of a record of 245 bytes: the widths of its fields, and the fields of its key. Assumes nothing.
use Prim.Native.Nat.{ℕ, ◌+◌, ◌-◌, ◌≤◌}
use mathlib.Core.Path.{◌≡◌, refl, ap, ◌∙◌}
use mathlib.Core.List.{List, [], ◌++◌, append_assoc}
use mathlib.Core.Bool.{true, ◌||◌}
use native.Mathlib.Omega.{arith}
use lib.Dec.{eqb, lit≤}
use lib.ListN.{length, get_or, length-append}
use lib.Seq.{get_or-append-add}
use Rattle.text.specs.Characters.{A, B, C, D, L, M, R, S, letter_t, Z}
use Rattle.text.specs.Fields.{columns}
use Rattle.text.proofs.FieldsLaws.{length-columns, one_column}
use Rattle.text.proofs.ColumnsLaws.{columns_between}
use Rattle.layout.specs.Record.{record_key, type_of, is_known_type, case_type_of}

module _ (rec : List ℕ) (e : length rec ≡ 245) where
  -- the width of a field sent
  pub length-sent : (a z : ℕ) → 1 ≤ a → a ≤ z + 1 → z ≤ 245 → length (columns a z rec) ≡ z + 1 - a
  length-sent a z l o h = length-columns a z rec (record { low = l; ordered = o; high = omega arith })

  state_length : length (columns 1 2 rec) ≡ 2
  state_length = length-sent 1 2 (lit≤ tt) (lit≤ tt) (lit≤ tt)

  ssn-length : length (columns 6 14 rec) ≡ 9
  ssn-length = length-sent 6 14 (lit≤ tt) (lit≤ tt) (lit≤ tt)

  -- the key is twelve bytes: state, SSN and case type
  pub key_length : length (record_key rec) ≡ 12
  key_length =
      let c = length-sent 74 74 (lit≤ tt) (lit≤ tt) (lit≤ tt) in
      simp length-append (omega (arith, state_length, ssn-length))

  pub key_state : columns 1 2 (record_key rec) ≡ columns 1 2 rec
  key_state =
      ap (columns 1 2) (append_assoc (columns 1 2 rec) (columns 6 14 rec) (columns 74 74 rec))
      ∙ columns_between 1 2 [] (columns 1 2 rec) (columns 6 14 rec ++ columns 74 74 rec) refl (omega (arith, state_length))

  pub key_ssn : columns 3 11 (record_key rec) ≡ columns 6 14 rec
  key_ssn =
      columns_between 3 11 (columns 1 2 rec) (columns 6 14 rec) (columns 74 74 rec)
      (omega (arith, state_length)) (omega (arith, state_length, ssn-length))

  pub key_case_type : get_or (record_key rec) 11 0 ≡ case_type_of rec
  key_case_type =
      let front : List ℕ = columns 1 2 rec ++ columns 6 14 rec in
      let l : length front ≡ 11 = simp length-append (omega (arith, state_length, ssn-length)) in
      let z : 11 ≡ length front + 0 = omega arith in
      ap (λ (k : ℕ). get_or (record_key rec) k 0) z
      ∙ get_or-append-add front (columns 74 74 rec) 0 0
      ∙ one_column 74 rec (lit≤ tt)

-- a record of one of the ten types
pub known_type : (rec : List ℕ) (kind : ℕ) → type_of rec ≡ kind
    → (eqb kind A || eqb kind B || eqb kind C || eqb kind D || eqb kind L || eqb kind M || eqb kind R || eqb kind S || eqb kind letter_t || eqb kind Z) ≡ true
    → is_known_type rec ≡ true
unfolding is_known_type
known_type rec kind e t = rw e t
