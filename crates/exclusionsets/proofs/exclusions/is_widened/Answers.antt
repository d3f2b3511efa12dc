-- `exclusions::is_widened` meets its contract: the definition's two tests. Assumes nothing.
use mathlib.Core.Path.{refl}
use Rattle.exclusionsets.specs.ExclusionText.{is_widened}
use Rattle.exclusionsets.proofs.exclusions.is_widened.Goals as goal

pub returns : goal.returns
unfolding is_widened
returns c = refl
