-- From the outcome of a conversion, with the number and the place that its answer stands for, to what its C function leaves, in either
-- direction. Assumes nothing.
use Prim.Native.Nat.{ℕ}
use mathlib.Core.Path.{◌≡◌, ap}
use mathlib.Core.List.{List}
use mathlib.Core.Option.{Option, get_or}
use Rattle.std.specs.Prelude.{Result}
use Rattle.answers.specs.Answer.{refusal_number}
use Rattle.codepage.specs.Conversion.{ConversionOutcome, conversion_answer, place_told, converted_as, conversion_outcome}
use Rattle.codepage.specs.declared.conversion.ConversionError.{ConversionError}
use Rattle.fantanolive.specs.CodepageCalls.{conversion_left_by, conversion_left}

pub conversion_left_lem : (code : ℕ → Option ℕ) (input out left : List ℕ) (place number place' : ℕ) (answer : Result (Unit {0}) ConversionError)
    → converted_as answer left ≡ conversion_outcome code input out
    → (number ≡ refusal_number (conversion_answer answer)) × (place' ≡ get_or (place_told answer) place)
    → record { number = number; numbers = place'; buffers = left } ≡ conversion_left code input out place
unfolding conversion_left
conversion_left_lem code input out left place number place' answer o t =
    rw (t.0, t.1) (ap (λ (p : ConversionOutcome). conversion_left_by p place) o)
