-- Laws of tables: the rule at each entry from one test of them all; what the table of a code says of a byte; the entries of a file.
-- Assumes nothing.
use Prim.Native.Nat.{ℕ, zero, suc, ◌+◌, ◌<◌}
use mathlib.Core.Path.{◌≡◌, refl, ap, ◌∙◌}
use mathlib.Core.Bool.{Bool, true, false, cond, ◌&&◌}
use mathlib.Core.List.{List, [], ◌∷◌}
use mathlib.Core.Option.{Option, none, some}
use native.Mathlib.Omega.{arith}
use lib.Dec.{eqb, ltb}
use lib.ListN.{length, get_or, get_or-eq_default}
use borrow.Author.Tests.{ltb-true, ltb-false, ne_eqb}
use Rattle.text.specs.Options.{or_zero}
use Rattle.text.proofs.FieldsLaws.{and_left, and_right}
use Rattle.codepage.specs.Tables.{table_from, table_of, code_in, entries_of}

-- ---- one test of all entries

-- the test passes at each entry and its place, counted from i
abbrev pub every_from : (ℕ → ℕ → Bool) → ℕ → List ℕ → Bool
every_from f i [] = true
every_from f i (x ∷ xs) = f i x && every_from f (suc i) xs

each_from : (f : ℕ → ℕ → Bool) (i : ℕ) (xs : List ℕ) → every_from f i xs ≡ true → (k : ℕ) → k < length xs → f (i + k) (get_or xs k 0) ≡ true
each_from f i [] t k h = absurd (omega arith)
each_from f i (x ∷ xs) t zero h = let e : i + 0 ≡ i = omega arith in rw e (and_left (f i x) (every_from f (suc i) xs) t)
each_from f i (x ∷ xs) t (suc k) h =
    let e : i + suc k ≡ suc i + k = omega arith in
    rw e (each_from f (suc i) xs (and_right (f i x) (every_from f (suc i) xs) t) k (omega arith))

pub each : (f : ℕ → ℕ → Bool) (xs : List ℕ) → every_from f 0 xs ≡ true → (k : ℕ) → k < length xs → f k (get_or xs k 0) ≡ true
each f xs t k h = let e : 0 + k ≡ k = omega arith in rw e at (each_from f 0 xs t k h)

-- ---- the table of a code

length_from : (code : ℕ → Option ℕ) (b n : ℕ) → length (table_from code b n) ≡ n
unfolding table_from
length_from code b zero = refl
length_from code b (suc n) = ap suc (length_from code (suc b) n)

pub length_table : (code : ℕ → Option ℕ) → length (table_of code) ≡ 256
unfolding table_of
length_table code = length_from code 0 256

entry_from : (code : ℕ → Option ℕ) (b n k : ℕ) → k < n → get_or (table_from code b n) k 0 ≡ or_zero (code (b + k))
unfolding table_from
entry_from code b zero k h = absurd (omega arith)
entry_from code b (suc n) zero h = let e : b + 0 ≡ b = omega arith in rw e
entry_from code b (suc n) (suc k) h = let e : b + suc k ≡ suc b + k = omega arith in rw e (entry_from code (suc b) n k (omega arith))

entry_inside : (code : ℕ → Option ℕ) (b : ℕ) → b < 256 → get_or (table_of code) b 0 ≡ or_zero (code b)
unfolding table_of
entry_inside code b h = let e : 0 + b ≡ b = omega arith in rw e at (entry_from code 0 256 b h)

-- ---- what an entry says

said : (is_zero : Bool) (entry c : ℕ) → cond is_zero none (some entry) ≡ some c → entry ≡ c
said true entry c e = cc
said false entry c e = cc

module _ (table : List ℕ) (b : ℕ) where
  pub code_none : get_or table b 0 ≡ 0 → code_in table b ≡ none
  unfolding code_in
  code_none e = rw e

  pub code_some : (get_or table b 0 ≡ 0 → ⊥) → code_in table b ≡ some (get_or table b 0)
  unfolding code_in
  code_some n = rw (ne_eqb _ _ n)

  pub code-entry : (c : ℕ) → code_in table b ≡ some c → get_or table b 0 ≡ c
  unfolding code_in
  code-entry c e = said (eqb (get_or table b 0) 0) (get_or table b 0) c e

-- a byte other than 0
abbrev pub IsCode : ℕ → Type 0
IsCode n = (0 < n) × (n < 256)

-- what has a counterpart is one, and so is the counterpart
abbrev pub Bytewise : (ℕ → Option ℕ) → Type 0
Bytewise code = (b c : ℕ) → code b ≡ some c → IsCode b × IsCode c

-- the table of such a code says the same of every number
module _ (code : ℕ → Option ℕ) (w : Bytewise code) (b : ℕ) where
  none_said : code b ≡ none → (t : Bool) → ltb b 256 ≡ t → get_or (table_of code) b 0 ≡ 0
  none_said e true h = entry_inside code b (ltb-true b 256 h) ∙ ap or_zero e
  none_said e false h = get_or-eq_default (table_of code) 0 (omega (arith, length_table code, ltb-false b 256 h))

  pub entry_said : (c : ℕ) → code b ≡ some c → get_or (table_of code) b 0 ≡ c
  entry_said c e = entry_inside code b (w b c e).0.1 ∙ ap or_zero e

  same_said : (o : Option ℕ) → code b ≡ o → code_in (table_of code) b ≡ o
  same_said none e = code_none (table_of code) b (none_said e (ltb b 256) refl)
  same_said (some c) e =
      let g = entry_said c e in
      let z = (w b c e).1.0 in
      code_some (table_of code) b (λ n. omega arith) ∙ ap some g

  pub table_says : code_in (table_of code) b ≡ code b
  table_says = same_said (code b) refl

-- ---- the entries of a file

pub length_entries : (table s : List ℕ) → length (entries_of table s) ≡ length s
unfolding entries_of
length_entries table [] = refl
length_entries table (b ∷ bs) = ap suc (length_entries table bs)

pub entries_at : (table s : List ℕ) (i : ℕ) → i < length s → get_or (entries_of table s) i 0 ≡ get_or table (get_or s i 0) 0
unfolding entries_of
entries_at table [] i h = absurd (omega arith)
entries_at table (b ∷ bs) zero h = refl
entries_at table (b ∷ bs) (suc i) h = entries_at table bs i (omega arith)
