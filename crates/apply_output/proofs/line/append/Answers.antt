-- `line::append`: the text is spliced in where it is to stand, and a splice keeps what stands behind it. Assumes nothing.
use mathlib.Core.Path.{refl}
use native.Mathlib.Omega.{arith}
use Rattle.apply_output.proofs.LineLaws.{spliced-appended}
use Rattle.apply_output.proofs.line.append.Goals as goal

pub returns : goal.returns
returns c =
    let a = c.args in
    spliced-appended a.out.now a.at a.s.now _ _ (omega arith) refl c.copy_in.ensures
