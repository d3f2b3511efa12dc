-- `convert::zero_cents` meets its contract: one write. Assumes nothing.
use Rattle.addcents.proofs.convert.zero_cents.Goals as goal

pub returns : goal.returns
returns c = c.put.ensures
