-- Worked examples of taking back: the definitions compute what is written out by hand. Assumes nothing.
use mathlib.Core.Path.{◌≡◌, refl}
use mathlib.Core.List.{[], ◌∷◌}
use mathlib.Core.Option.{none, some}
use Rattle.journal.specs.Journal.{entry, journal}
use Rattle.journal.proofs.ExamplesProof.{example_row, example_before, example_after}
use Rattle.takeback.specs.Restored.{restored_from, restored}

-- of the rows at entry and at the end that the journal's examples have
taken : restored (journal 3 4 (entry 1 none ∷ entry 2 (some (example_row 3 0)) ∷ [])) example_after ≡ example_before
unfolding restored_from
taken = refl
