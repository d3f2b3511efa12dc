-- `changes::put_names` meets its contract: the writes of the definition, in its order. Assumes nothing.
use Rattle.onecase.proofs.changes.put_names.Goals as goal

pub returns : goal.returns
returns c =
    rw (
      c.copy-3.ensures,
      c.copy-2.ensures,
      c.copy.ensures,
    )
