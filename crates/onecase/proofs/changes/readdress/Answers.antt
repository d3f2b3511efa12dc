-- `changes::readdress` meets its contract: the writes of the definition, in its order. Assumes nothing.
use Rattle.onecase.specs.Changes.{readdressed}
use Rattle.onecase.proofs.changes.readdress.Goals as goal

pub returns : goal.returns
unfolding readdressed
returns c =
    rw c.copy.ensures
