-- `apply::is_short`: the code's test is the definition's. Assumes nothing.
use mathlib.Core.Path.{refl}
use Rattle.journaledapply.specs.Journaled.{refusal25}
use Rattle.journaledapply.proofs.apply.is_short.Goals as goal

pub returns : goal.returns
unfolding refusal25
returns c = refl
