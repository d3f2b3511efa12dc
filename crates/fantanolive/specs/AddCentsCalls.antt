-- The exported C function of document 02, item 6, that converts a master: what it returns and what it leaves, over the outcome of the call
-- beneath it. Assumes nothing.
use Rattle.std.specs.Prelude.{ℕ, List}
use Rattle.answers.specs.Answer.{NoResult, Returned, returned}
use Rattle.addcents.specs.Convert.{ConvertCall, convert_outcome}

-- every byte of the master; there are no result numbers
unfoldable pub convert_left : ConvertCall → Returned NoResult (List ℕ)
convert_left c = returned (λ u. u) tt (convert_outcome c)
