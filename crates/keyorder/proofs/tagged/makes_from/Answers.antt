-- `tagged::makes_from`: the definition's two tests. Assumes nothing.
use Rattle.keyorder.proofs.tagged.makes_from.Goals as goal

pub returns : goal.returns
returns c = rw (c.flag_wrong.ensures, c.kind_part.ensures)
