-- `differences::is_other_local_code` meets its contract: its columns. Assumes nothing.
use Rattle.caserecords.specs.Differences.{is_other_local_code}
use Rattle.caserecords.proofs.differences.is_other_local_code.Goals as goal

pub returns : goal.returns
unfolding is_other_local_code
returns c =
    rw c.is_other.ensures
