-- `refusals::lacks_room`: the rows to come don't fit where they are more than the master can have. Assumes nothing.
use mathlib.Core.Bool.{not}
use mathlib.Core.Path.{ap, ◌∙◌}
use Rattle.layout.specs.Limits.{max_rows}
use Rattle.batch.proofs.ApplyLaws.{room_told}
use Rattle.layout.specs.Batch.{details_of}
use Rattle.batch.proofs.refusals.lacks_room.Goals as goal

pub returns : goal.returns
unfolding details_of
returns c =
    let a = c.args in
    ap not (c.fit.ensures ∙ c.most_rows-most.ensures _) ∙ rw c.requires.2 (room_told max_rows a.m.now a.n a.batch.now)
