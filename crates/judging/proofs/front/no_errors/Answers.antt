-- `front::no_errors` meets its contract: a set of the number 0 has none of 01 to 05. Assumes nothing.
use lib.Dec.{lit≤}
use Rattle.judging.proofs.FrontLaws.{front_clean}
use Rattle.judging.proofs.front.no_errors.Goals as goal

pub returns : goal.returns
returns c = (front_clean, lit≤ tt)
