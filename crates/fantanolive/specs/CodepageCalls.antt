-- The exported C functions of document 02, item 1: what each returns and what it leaves in the place and the output, over the outcome of the call
-- beneath it. Assumes nothing.
use Rattle.std.specs.Prelude.{ℕ, List}
use Rattle.std.proofs.Math.Option.{Option, get_or}
use Rattle.answers.specs.Answer.{Returned, refusal_number}
use Rattle.codepage.specs.Conversion.{ConversionOutcome, conversion_outcome}

-- the place is written with refusal 16 alone, which alone has one
abbrev pub conversion_left_by : ConversionOutcome → ℕ → Returned ℕ (List ℕ)
conversion_left_by o place =
    record { number = refusal_number o.outcome.answer; numbers = get_or o.place place; buffers = o.outcome.buffers }

unfoldable pub conversion_left : (ℕ → Option ℕ) → List ℕ → List ℕ → ℕ → Returned ℕ (List ℕ)
conversion_left code input out place = conversion_left_by (conversion_outcome code input out) place
