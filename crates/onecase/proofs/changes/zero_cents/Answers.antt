-- `changes::zero_cents` meets its contract: 00 in columns 197 and 198. Assumes nothing.
use Rattle.onecase.proofs.changes.zero_cents.Goals as goal

pub returns : goal.returns
returns c = c.write.ensures
