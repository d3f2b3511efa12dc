-- `differences::is_zero_or_listed` meets its contract: the definition's two tests. Assumes nothing.
use Rattle.caserecords.specs.Differences.{is_zero_or_listed}
use Rattle.caserecords.proofs.differences.is_zero_or_listed.Goals as goal

pub returns : goal.returns
unfolding is_zero_or_listed
returns c = rw (c.contains.ensures, c.unread.ensures, c.same.ensures)
