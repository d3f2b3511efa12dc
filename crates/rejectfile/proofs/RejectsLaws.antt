-- Laws of the reject records: a verdict's codes and four columns, and the record that is written. Assumes nothing.
use Prim.Native.Nat.{ℕ, ◌^◌, ◌<◌}
use mathlib.Core.Path.{◌≡◌, refl, ap}
use mathlib.Core.List.{List, [], ◌∷◌}
use native.Mathlib.Omega.{arith}
use lib.Dec.{lit≤}
use lib.ListN.{length}
use Rattle.text.specs.Fields.{spaces, placed}
use Rattle.layout.specs.Codes.{codes_from, codes_of_number, six_lowest}
use Rattle.layout.proofs.CodesLaws.{length-text, lowest_codes}
use Rattle.onecase.specs.Verdict.{Judgement, meaning}
use Rattle.onecase.specs.declared.verdict.Verdict.{Verdict}
use Rattle.onecase.specs.declared.verdict.Verdict.TheVariants.{Accepted, Rejected, RejectedWithName}
use Rattle.rejectfile.specs.Rejects.{four_columns, reject_record, if_any}
use Rattle.rejectfile.specs.Answers.{set_in}
use Rattle.text.proofs.ColumnsWritten.{Written, written_none, written-field, written_kept}

-- ---- what an answer stands for

pub codes_in : (v : Verdict) → (meaning v).codes ≡ codes_of_number (set_in v)
codes_in (Accepted set) = refl
codes_in (Rejected set) = refl
codes_in (RejectedWithName set name) = refl

pub four_in : (v : Verdict) → length (four_columns (meaning v).name) ≡ 4
four_in (Accepted set) = refl
four_in (Rejected set) = refl
four_in (RejectedWithName set name) = refl

-- an empty set has no record, another has one
pub none_any : (n : ℕ) (reject : List ℕ) → n ≡ 0 → if_any (codes_of_number n) reject ≡ []
unfolding codes_of_number codes_from
none_any n reject e = rw e

pub some_any : (n : ℕ) (reject : List ℕ) → n < 2 ^ 64 → 0 < n → if_any (codes_of_number n) reject ≡ reject ∷ []
some_any n reject h l = ap (λ (cs : List ℕ). if_any cs reject) (lowest_codes n h l)

-- ---- the record

-- six codes of two digits
pub length_six : (codes : List ℕ) → length (six_lowest codes) ≡ 12
unfolding six_lowest
length_six codes = length-text 6 codes

module _ (detail : List ℕ) (verdict : Judgement) (wide : length detail ≡ 245) (four : length (four_columns verdict.name) ≡ 4) where
  -- its fields placed one after the other in the detail
  pub reject_written : (text name a b c : List ℕ)
      → text ≡ six_lowest verdict.codes
      → name ≡ four_columns verdict.name
      → a ≡ placed 228 239 text detail
      → b ≡ placed 240 243 name a
      → c ≡ placed 244 244 (spaces 1) b
      → Written 245 (reject_record detail verdict) detail c
  unfolding reject_record
  reject_written text name a b c et en ea eb ec =
      let w1 = written_kept (written_none detail) 1 227 refl (lit≤ tt) (omega arith) in
      let w2 = written-field w1 228 239 (six_lowest verdict.codes) (rw et at ea) refl (omega (arith, length_six verdict.codes)) (omega arith) in
      let w3 = written-field w2 240 243 (four_columns verdict.name) (rw en at eb) refl (omega arith) (omega arith) in
      let w4 = written-field w3 244 244 (spaces 1) ec refl refl (omega arith) in
      written_kept w4 245 245 refl (lit≤ tt) (omega arith)

  pub length_reject : length (reject_record detail verdict) ≡ 245
  length_reject = (reject_written _ _ _ _ _ refl refl refl refl refl).wide
