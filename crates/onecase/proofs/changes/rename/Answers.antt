-- `changes::rename` meets its contract: the writes of the definition, in its order. Assumes nothing.
use Rattle.onecase.specs.Changes.{renamed}
use Rattle.onecase.proofs.changes.rename.Goals as goal

pub returns : goal.returns
unfolding renamed
returns c =
    rw (
      c.copy-2.ensures,
      c.copy.ensures,
    )
