-- Document 01, "One-case machine": the verdict is the set of codes, and with 17 the four stored characters. Assumes nothing.
use Rattle.std.specs.Prelude.{ℕ, ◌≡◌, List, [], ◌∷◌, Bool, true, false, cond, eqb, leb}
use Rattle.std.proofs.Math.Option.{Option, none, some}
use Rattle.text.specs.Fields.{columns, at_least_one}
use Rattle.layout.specs.Codes.{codes_of_number}
use Rattle.judging.specs.Errors.{errors, holds17}
use Rattle.judging.specs.Warnings.{warnings}
use Rattle.onecase.specs.declared.verdict.FourBytes.{FourBytes}
use Rattle.onecase.specs.declared.verdict.Verdict.{Verdict}
use Rattle.onecase.specs.declared.verdict.Verdict.TheVariants.{Accepted, Rejected, RejectedWithName}
use Rattle.judging.specs.Setting.{Setting}

pub record Judgement : Type 0 where
  -- the set of codes, rising
  pub codes : List ℕ
  -- with 17 the four stored characters
  pub name : Option (List ℕ)

abbrev pub is_empty : List ℕ → Bool
is_empty [] = true
is_empty (c ∷ cs) = false

-- no error holds
unfoldable pub is_accepted : Setting → Option (List ℕ) → List ℕ → Bool
is_accepted setting row rec = is_empty (errors setting row rec)

-- all errors that hold; warnings come only without errors, and join the set
unfoldable pub codes : Setting → Option (List ℕ) → List ℕ → List ℕ
codes setting row rec =
    cond (is_accepted setting row rec) (warnings setting.list row rec) (errors setting row rec)

-- the first four stored characters of the last name
abbrev pub stored_name : Option (List ℕ) → Option (List ℕ)
stored_name none = none
stored_name (some row) = some (columns 31 34 row)

unfoldable pub judgement : Setting → Option (List ℕ) → List ℕ → Judgement
judgement setting row rec =
    record { codes = codes setting row rec; name = cond (holds17 setting row rec) (stored_name row) none }

-- errors are 01 to 18, warnings 51 and 52
abbrev pub is_error : ℕ → Bool
is_error c = leb c 18

abbrev pub is_warning : ℕ → Bool
is_warning c = leb 51 c

-- a code is in the set
abbrev pub has_code : ℕ → List ℕ → Bool
has_code c codes = at_least_one (λ (k : ℕ). eqb k c) codes

-- rejected: an error is in the set
unfoldable pub is_rejected : Judgement → Bool
is_rejected verdict = at_least_one is_error verdict.codes

-- warned: a warning is in the set
unfoldable pub is_warned : Judgement → Bool
is_warned verdict = at_least_one is_warning verdict.codes

-- four bytes as a field
abbrev pub four_bytes : FourBytes → List ℕ
four_bytes n = n.a ∷ n.b ∷ n.c ∷ n.d ∷ []

-- what each answer of the step stands for
abbrev pub meaning : Verdict → Judgement
meaning (Accepted set) = record { codes = codes_of_number set; name = none }
meaning (Rejected set) = record { codes = codes_of_number set; name = none }
meaning (RejectedWithName set n) = record { codes = codes_of_number set; name = some (four_bytes n) }

-- an answer says accepted exactly where no error holds
abbrev pub says_accepted : Verdict → Bool
says_accepted (Accepted set) = true
says_accepted (Rejected set) = false
says_accepted (RejectedWithName set n) = false

-- the answer for a set of errors: with 17 the name, which is the row's
pub record IsRejection (set : ℕ) (named : Bool) (row : Option (List ℕ)) (v : Verdict) : Type 0 where
  pub means : meaning v ≡ record { codes = codes_of_number set; name = cond named (stored_name row) none }
  pub rejects : says_accepted v ≡ false

-- no codes and no name
abbrev pub no_judgement : Judgement
no_judgement = record { codes = []; name = none }
