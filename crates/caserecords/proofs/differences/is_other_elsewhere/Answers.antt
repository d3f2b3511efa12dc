-- `differences::is_other_elsewhere` meets its contract: its four runs of columns. Assumes nothing.
use Rattle.caserecords.specs.Differences.{is_other_elsewhere}
use Rattle.caserecords.proofs.differences.is_other_elsewhere.Goals as goal

pub returns : goal.returns
unfolding is_other_elsewhere
returns c =
    rw (
      c.is_other-4.ensures,
      c.is_other-3.ensures,
      c.is_other-2.ensures,
      c.is_other.ensures,
    )
