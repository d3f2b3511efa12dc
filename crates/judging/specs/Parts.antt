-- For the contracts of inner functions; no rule of the papers stands here.
-- The parts in which the code judges a record's errors, and the codes of each. Assumes nothing.
use Rattle.std.specs.Prelude.{ℕ, ◌≡◌, List, ◌++◌, Bool, ◌&&◌}
use Rattle.std.proofs.Math.Option.{Option}
use Rattle.layout.specs.Codes.{number_of_codes}
use Rattle.judging.specs.Errors.{error01, error02, error03, error04, error05, error06, error07, error08, error10, error11, error12, error13, error14, error15, error16, is_given, holds17, code, errors}
use Rattle.judging.specs.Setting.{Setting}
use Rattle.judging.specs.declared.parts.FirstErrors.{FirstErrors}
use Rattle.judging.specs.declared.front.Judged.{Judged}

-- it holds under every set of names that has the record's own exactly where it is given
abbrev pub UnderNames : Bool → List ℕ → (List (List ℕ) → Type 0) → Type 0
UnderNames given rec holds = (names : List (List ℕ)) → given ≡ is_given names rec → holds names

-- errors 01 to 05
pub record IsFirst (state rec : List ℕ) (f : FirstErrors) : Type 0 where
  pub has01 : f.state ≡ error01 state rec
  pub has02 : f.ssn ≡ error02 rec
  pub has03 : f.kind ≡ error03 rec
  pub has04 : f.case_type ≡ error04 rec
  pub has05 : f.name ≡ error05 rec

-- the codes of each part
abbrev pub first_codes : FirstErrors → List ℕ
first_codes f = code 1 f.state ++ (code 2 f.ssn ++ (code 3 f.kind ++ (code 4 f.case_type ++ code 5 f.name)))

abbrev pub codes06to08 : Bool → List ℕ → List ℕ
codes06to08 known rec = code 6 (known && error06 rec) ++ (code 7 (known && error07 rec) ++ code 8 (known && error08 rec))

abbrev pub codes10to13 : Bool → ℕ → List ℕ → List ℕ → List ℕ
codes10to13 known year list rec =
    code 10 (known && error10 list rec)
    ++ (code 11 (known && error11 rec) ++ (code 12 (known && error12 rec) ++ code 13 (known && error13 year rec)))

abbrev pub codes14to16 : Bool → List ℕ → List ℕ
codes14to16 known rec = code 14 (known && error14 rec) ++ (code 15 (known && error15 rec) ++ code 16 (known && error16 rec))

-- the set of a record's errors, and whether 17 is among them
abbrev pub IsJudged : Setting → Option (List ℕ) → List ℕ → Judged → Type 0
IsJudged setting row rec r = (r.set ≡ number_of_codes (errors setting row rec)) × (r.named ≡ holds17 setting row rec)
