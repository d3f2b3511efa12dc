-- Document 01, "One-case machine": beside the record, the step reads the control record's state, the year and the list; by document 02,
-- item 3, also the set of names that the B records of its key give. Assumes nothing.
use Rattle.std.specs.Prelude.{ℕ, List}

pub record Setting : Type 0 where
  -- the control record's state
  pub state : List ℕ
  pub year : ℕ
  -- the list of local codes
  pub list : List ℕ
  -- the names given under the key: columns 30–33 of its B records (Names.antt says of which)
  pub names : List (List ℕ)

abbrev pub setting_of : List ℕ → ℕ → List ℕ → List (List ℕ) → Setting
setting_of state year list names = record { state = state; year = year; list = list; names = names }
