-- `changes::pay` meets its contract: the writes of the definition, in its order. Assumes nothing.
use Rattle.onecase.specs.Changes.{paid}
use Rattle.onecase.proofs.changes.pay.Goals as goal

pub returns : goal.returns
unfolding paid
returns c =
    rw (
      c.copy-2.ensures,
      c.copy.ensures,
    )
