-- `line::put_refused`: the line feed stands behind the word and its number, and nothing else is written. Assumes nothing.
use mathlib.Core.Path.{refl}
use Prim.Native.Nat.{◌+◌}
use Rattle.apply_output.specs.Line.{refused_line}
use Rattle.apply_output.specs.Ascii.{ascii}
use Rattle.apply_output.proofs.LineLaws.{spliced-appended, appended_then}
use native.Mathlib.Omega.{arith}
use Rattle.apply_output.proofs.line.put_refused.Goals as goal

pub returns : goal.returns
unfolding refused_line
returns c =
    let item = c.append_item-end in
    let end = item.result in
    appended_then _ _ _ 0 end (end + 1) _ (ascii "\n") item.ensures.0 (spliced-appended item.new.out end (ascii "\n") _ (end + 1) (omega (arith, item.auto.out, item.ensures.1, c.requires)) refl c.copy_in.ensures)
