-- `totals::has_state`: the test is that of the definition. Assumes nothing.
use Rattle.batchfile.specs.Totals.{has_state}
use Rattle.batchfile.proofs.totals.has_state.Goals as goal

pub returns : goal.returns
unfolding has_state
returns c = rw (c.is_state.ensures, c.field.ensures)
