-- `record::type_of` meets its contract: what reading the letter gives. Assumes nothing.
use Rattle.layout.proofs.TypeLaws.{read_letter}
use Rattle.layout.proofs.record.type_of.Goals as goal

pub returns : goal.returns
returns c = rw c.ok.ensures.value (read_letter c.args.rec.now _ c.try_from.ensures)
