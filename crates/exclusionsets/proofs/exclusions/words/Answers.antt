-- `exclusions::words` meets its contract: its table has the letters of the names. Assumes nothing.
use mathlib.Core.Path.{refl}
use Rattle.exclusionsets.specs.Exclusions.{exclusion_names}
use Rattle.exclusionsets.proofs.exclusions.words.Goals as goal

pub returns-clause-letters : goal.returns-clause-letters
unfolding exclusion_names
returns-clause-letters c = refl
