-- `changes::reidentify` meets its contract: the writes of the definition, in its order. Assumes nothing.
use Rattle.onecase.specs.Changes.{reidentified}
use Rattle.onecase.proofs.changes.reidentify.Goals as goal

pub returns : goal.returns
unfolding reidentified
returns c =
    rw c.copy.ensures
