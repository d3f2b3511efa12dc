-- `differences::is_other_balance` meets its contract: its two fields. Assumes nothing.
use Rattle.caserecords.specs.Differences.{is_other_balance}
use Rattle.caserecords.proofs.differences.is_other_balance.Goals as goal

pub returns : goal.returns
unfolding is_other_balance
returns c =
    rw (
      c.is_other-2.ensures,
      c.is_other.ensures,
    )
