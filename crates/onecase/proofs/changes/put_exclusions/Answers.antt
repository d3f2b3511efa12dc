-- `changes::put_exclusions` meets its contract: the writes of the definition, in its order. Assumes nothing.
use Rattle.onecase.proofs.changes.put_exclusions.Goals as goal

pub returns : goal.returns
returns c =
    rw (
      c.write.ensures,
      c.exclusion_byte-set.ensures,
      c.zero_cents.ensures,
    )
