-- `record::is_known_type` meets its contract: its type is one of the ten. Assumes nothing.
use native.Mathlib.Omega.{arith}
use borrow.Author.Tests.{tests}
use Rattle.layout.proofs.TypeLaws.{known_by}
use Rattle.layout.proofs.record.is_known_type.Goals as goal

pub returns : goal.returns
returns c = grind (arith, tests, c.is_some.ensures, known_by c.args.rec.now _ c.type_of.ensures)
