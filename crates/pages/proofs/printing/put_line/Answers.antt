-- `printing::put_line`: 132 bytes copied in behind k lines are one line more. Assumes nothing.
use native.Mathlib.Omega.{arith}
use Rattle.text.proofs.BlocksLaws.{holds_append}
use Rattle.pages.proofs.printing.put_line.Goals as goal

pub returns : goal.returns
returns c =
    let a = c.args in
    rw c.copy_in.ensures (holds_append 132 a.k a.out.now a.line (omega arith) (omega (arith, c.requires)))
