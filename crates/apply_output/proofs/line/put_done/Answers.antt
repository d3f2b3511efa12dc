-- `line::put_done`: each part of the line stands behind the one before. Assumes nothing.
use Rattle.apply_output.specs.Line.{done_line}
use Rattle.apply_output.specs.Ascii.{ascii}
use Rattle.apply_output.proofs.LineLaws.{appended_then}
use native.Mathlib.Omega.{arith}
use lib.ListN.{length}
use Rattle.apply_output.proofs.line.put_done.Goals as goal

pub append_item-end-requires-2 : goal.append_item-end-requires-2
append_item-end-requires-2 c =
    omega (
      arith,
      c.put_letters.auto.out,
      c.append_counts-end.auto.out,
      c.append_item-end.auto.out,
      c.append_counts-end.ensures.1,
      c.append_item-end.ensures.1,
      c.requires,
    )

pub append-requires : goal.append-requires
append-requires c =
    omega (
      arith,
      c.put_letters.auto.out,
      c.append_counts-end.auto.out,
      c.append_item-end.auto.out,
      c.append_item-end-2.auto.out,
      c.append_counts-end.ensures.1,
      c.append_item-end.ensures.1,
      c.append_item-end-2.ensures.1,
      c.requires,
    )

pub shape_of-out : goal.shape_of-out
shape_of-out c =
    omega (
      arith,
      c.put_letters.auto.out,
      c.append_counts-end.auto.out,
      c.append_item-end.auto.out,
      c.append_item-end-2.auto.out,
      c.append.auto.out,
    )

pub returns : goal.returns
unfolding done_line
returns c =
    let state = c.put_letters in
    let counts = c.append_counts-end in
    let neither = c.append_item-end in
    let rows = c.append_item-end-2 in
    appended_then _ _ _ 0 rows.result _ _ (ascii "\n") (appended_then _ _ _ 0 neither.result rows.result _ _ (appended_then _ _ _ 0 counts.result neither.result _ _ (appended_then _ _ _ 0 (length c.args.state.now) counts.result _ _ state.ensures counts.ensures.0) neither.ensures.0) rows.ensures.0) c.append.ensures
