-- `differences::is_other_case_id` meets its contract: its columns. Assumes nothing.
use Rattle.caserecords.specs.Differences.{is_other_case_id}
use Rattle.caserecords.proofs.differences.is_other_case_id.Goals as goal

pub returns : goal.returns
unfolding is_other_case_id
returns c =
    rw c.is_other.ensures
