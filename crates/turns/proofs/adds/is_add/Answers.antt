-- `adds::is_add`: the slice handed on is the record. Assumes nothing.
use Rattle.std.proofs.Common.{◌*◌}
use Rattle.text.proofs.BlocksLaws.{part_width}
use Rattle.turns.proofs.adds.is_add.Goals as goal

pub returns : goal.returns
returns c = rw (c.is_type.ensures, part_width 245 c.args.batch.now (c.args.i * 245))
