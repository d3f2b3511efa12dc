-- `line::append_counts`: each item stands behind the one before. Assumes nothing.
use Rattle.apply_output.specs.Line.{count_items}
use Rattle.apply_output.proofs.LineLaws.{appended_then}
use native.Mathlib.Omega.{arith}
use Rattle.apply_output.proofs.line.append_counts.Goals as goal

pub returns : goal.returns
unfolding count_items
returns c =
    let one = c.append_item-end in
    let two = c.append_item-end-2 in
    let three = c.append_item in (
      appended_then _ _ _ c.args.at two.result _ _ _ (appended_then _ _ _ c.args.at one.result two.result _ _ one.ensures.0 two.ensures.0) three.ensures.0,
      omega (arith, one.ensures.1, two.ensures.1, three.ensures.1),
    )
