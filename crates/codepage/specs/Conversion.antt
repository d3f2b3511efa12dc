-- Document 02, item 1: the conversion of a file, in either direction. `code` is what is said of a byte: its counterpart, or none.
-- Assumes nothing.
use Rattle.std.specs.Prelude.{ℕ, suc, ◌≡◌, List, [], ◌∷◌, Bool, true, false, ltb, length}
use Rattle.std.proofs.Math.Option.{Option, none, some}
use Rattle.answers.specs.Answer.{refuse_if, Answer, refused, done, NoResult, Outcome, Run, outcome_by}
use Rattle.text.specs.Blocks.{over}
use Rattle.codepage.specs.declared.conversion.ConversionError.{ConversionError}
use Rattle.codepage.specs.declared.conversion.ConversionError.TheVariants.{NoCounterpart, TooShort}
use Rattle.std.specs.Prelude as library

-- the place, counted from 0, of the first byte without a counterpart, or none: of a byte and what the bytes behind it have
abbrev pub place_behind : Option ℕ → Option ℕ → Option ℕ
place_behind none behind = some 0
place_behind (some c) none = none
place_behind (some c) (some p) = some (suc p)

unfoldable pub place_without : (ℕ → Option ℕ) → List ℕ → Option ℕ
place_without code [] = none
place_without code (b ∷ bs) = place_behind (code b) (place_without code bs)

-- the counterparts of the bytes, in their order
abbrev pub with_code : Option ℕ → List ℕ → List ℕ
with_code none bytes = bytes
with_code (some c) bytes = c ∷ bytes

unfoldable pub counterparts : (ℕ → Option ℕ) → List ℕ → List ℕ
counterparts code [] = []
counterparts code (b ∷ bs) = with_code (code b) (counterparts code bs)

-- 16: a byte without a counterpart, from the place of the first one
abbrev pub refusal16 : Option ℕ → Bool
refusal16 none = false
refusal16 (some place) = true

-- 17: an output shorter than the input
abbrev pub refusal17 : List ℕ → List ℕ → Bool
refusal17 input out = ltb (length out) (length input)

-- 16 is checked before 17
unfoldable pub conversion_refusal : (ℕ → Option ℕ) → List ℕ → List ℕ → ℕ
conversion_refusal code input out = refuse_if (refusal16 (place_without code input)) 16 (refuse_if (refusal17 input out) 17 0)

-- the converted bytes at the front of the output and the bytes behind them kept; there is no result
abbrev pub conversion_run : (ℕ → Option ℕ) → List ℕ → List ℕ → Run NoResult (List ℕ)
conversion_run code input out = record { result = tt; buffers = over (counterparts code input) out }

-- the answer with the output, and with 16 the place of the first byte without a counterpart
pub record ConversionOutcome : Type 0 where
  pub outcome : Outcome NoResult (List ℕ)
  pub place : Option ℕ

unfoldable pub conversion_outcome : (ℕ → Option ℕ) → List ℕ → List ℕ → ConversionOutcome
conversion_outcome code input out =
    record { outcome = outcome_by (conversion_refusal code input out) out (conversion_run code input out); place = place_without code input }

-- what each answer of the calls stands for, by the paper's numbers
abbrev pub conversion_answer : library.Result (Unit {0}) ConversionError → Answer NoResult
conversion_answer (library.Ok nothing) = done tt
conversion_answer (library.Err (NoCounterpart p)) = refused 16
conversion_answer (library.Err TooShort) = refused 17

abbrev pub place_told : library.Result (Unit {0}) ConversionError → Option ℕ
place_told (library.Ok nothing) = none
place_told (library.Err (NoCounterpart p)) = some p
place_told (library.Err TooShort) = none

-- the answer of a call and the output that it leaves
abbrev pub converted_as : library.Result (Unit {0}) ConversionError → List ℕ → ConversionOutcome
converted_as answer out = record { outcome = record { answer = conversion_answer answer; buffers = out }; place = place_told answer }

-- a place that was looked for
abbrev pub place_found : library.Option ℕ → Option ℕ
place_found library.None = none
place_found (library.Some place) = some place

-- what a call leaves: the promise of `to_ebcdic` and `to_ascii`, and what is assumed of two calls in ThereAndBack
pub record IsConversion (code : ℕ → Option ℕ) (input out : List ℕ) (o : ConversionOutcome) : Type 0 where
  pub is : o ≡ conversion_outcome code input out
