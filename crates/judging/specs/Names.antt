-- Document 02, item 3: the names that the B records of a key give, anywhere in the batch. Assumes nothing.
use Rattle.std.specs.Prelude.{ℕ, List, [], ◌∷◌, Bool, not, cond, ◌&&◌, ◌||◌}
use Rattle.text.specs.Characters.{B}
use Rattle.layout.specs.ChartA1.{name_front}
use Rattle.layout.specs.Record.{is_type}
use Rattle.judging.specs.Errors.{error01, error02, error03, error04, error05, error06, error18}

-- a B record that has none of errors 01 to 06 or 18, whether or not another error holds; 01 against the control record's state
unfoldable pub gives_name : List ℕ → List ℕ → Bool
gives_name state rec =
    is_type B rec
    && not
    (error01 state rec || error02 rec || error03 rec || error04 rec || error05 rec || error06 rec || error18 rec)

-- the names that some records give: columns 30–33 of those that give one
unfoldable pub names_given : List ℕ → List (List ℕ) → List (List ℕ)
names_given state [] = []
names_given state (rec ∷ recs) = cond (gives_name state rec) (name_front rec ∷ names_given state recs) (names_given state recs)
