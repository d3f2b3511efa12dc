-- `layout::codes::written` meets its contract: a set has as many codes as its number has ones. Assumes nothing.
use native.Mathlib.Omega.{arith}
use Rattle.layout.proofs.CodesLaws.{count_codes}
use Rattle.layout.proofs.codes.written.Goals as goal

pub returns : goal.returns
returns c = omega (arith, count_codes c.args.set c.ranges.set.fits, c.min.ensures)
