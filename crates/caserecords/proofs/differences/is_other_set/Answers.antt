-- `differences::is_other_set` meets its contract: its columns. Assumes nothing.
use Rattle.caserecords.specs.Differences.{is_other_set}
use Rattle.caserecords.proofs.differences.is_other_set.Goals as goal

pub returns : goal.returns
unfolding is_other_set
returns c =
    rw c.is_other.ensures
