-- `codes::name_at`: the four bytes read are the name's. Assumes nothing.
use native.Mathlib.Omega.{arith}
use borrow.Author.Tests.{tests}
use Rattle.namemarks.proofs.CodesLaws.{name_in_lem}
use Rattle.namemarks.proofs.codes.name_at.Goals as goal

pub returns : goal.returns
returns c = (
  rw (name_in_lem c.args.batch.now c.args.i) (grind (arith, tests, c.bytes_number.ensures.0)),
  grind (arith, tests, c.bytes_number.ensures.1),
)
