-- `amount::is_last_digit` meets its contract: the comparisons of the code are those of the definition. Assumes nothing.
use mathlib.Core.Path.{refl}
use Rattle.collectionfile.specs.Line.{is_last_digit}
use Rattle.collectionfile.proofs.amount.is_last_digit.Goals as goal

pub returns : goal.returns
unfolding is_last_digit
returns c = refl
