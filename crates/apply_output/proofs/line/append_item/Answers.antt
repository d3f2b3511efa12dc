-- `line::append_item`: the number stands behind the word. Assumes nothing.
use native.Mathlib.Omega.{arith}
use Rattle.apply_output.specs.Decimal.{decimal}
use Rattle.apply_output.proofs.LineLaws.{appended_then}
use Rattle.apply_output.proofs.line.append_item.Goals as goal

pub returns : goal.returns
returns c = (
  appended_then c.args.out.now c.append-end.new.out c.append_number.new.out c.args.at c.append-end.result c.append_number.result
      c.args.word.now (decimal c.args.n) c.append-end.ensures c.append_number.ensures.0,
  omega (arith, c.append-end.ensures.ends, c.append_number.ensures.1),
)
