-- `totals::has_ctl`: the test is that of the definition. Assumes nothing.
use Rattle.batchfile.specs.Totals.{has_ctl}
use Rattle.batchfile.proofs.totals.has_ctl.Goals as goal

pub returns : goal.returns
unfolding has_ctl
returns c = rw (c.same.ensures, c.field.ensures)
