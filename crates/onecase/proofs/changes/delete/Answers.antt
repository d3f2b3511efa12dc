-- `changes::delete` meets its contract: the writes of the definition, in its order. Assumes nothing.
use Rattle.onecase.specs.Changes.{deleted}
use Rattle.onecase.proofs.changes.delete.Goals as goal

pub returns : goal.returns
unfolding deleted
returns c =
    rw (
      c.write-2.ensures,
      c.write.ensures,
      c.zero_cents.ensures,
    )
