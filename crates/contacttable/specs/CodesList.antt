-- No sentence of the papers, a consequence: the codes of a state are what `apply` takes as its list. Over a whole call. Assumes nothing.
use Rattle.std.specs.Prelude.{ℕ, ◌*◌, ◌≡◌, List, true, take}
use Rattle.layout.specs.Locals.{is_local_list}
use Rattle.answers.specs.Answer.{done}
use Rattle.contacttable.specs.Codes.{CodesOutcome, codes_outcome}

-- the call is carried out with n codes: the 3 × n bytes at the front of the output aren't refused by 2 as a list
abbrev pub CodesAreAList : Type 0
CodesAreAList =
    (table : List ℕ) (count : ℕ) (state out : List ℕ) (o : CodesOutcome) (n : ℕ)
    → o ≡ codes_outcome table count state out
    → o.answer ≡ done n
    → is_local_list (take (n * 3) o.buffers) ≡ true
