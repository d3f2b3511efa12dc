-- `states` gives the state table: the constant computes to the table. Assumes nothing.
use mathlib.Core.Path.{refl}
use Rattle.layout.specs.States.{state_table}
use Rattle.layout.proofs.states.states.Goals as goal

pub returns : goal.returns
unfolding state_table
returns c = refl
