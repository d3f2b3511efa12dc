-- `changes::transfer` meets its contract: the writes of the definition, in its order. Assumes nothing.
use Rattle.onecase.specs.Changes.{transferred}
use Rattle.onecase.proofs.changes.transfer.Goals as goal

pub returns : goal.returns
unfolding transferred
returns c =
    rw (
      c.copy_unless_blank.ensures,
      c.copy.ensures,
    )
