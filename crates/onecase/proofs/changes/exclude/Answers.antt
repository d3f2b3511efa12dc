-- `changes::exclude` meets its contract: the writes of the definition, in its order. Assumes nothing.
use Rattle.onecase.specs.Changes.{excluded}
use Rattle.onecase.proofs.changes.exclude.Goals as goal

pub returns : goal.returns
unfolding excluded
returns c =
    rw (
      c.write.ensures,
      c.exclusion_byte-set.ensures,
    )
