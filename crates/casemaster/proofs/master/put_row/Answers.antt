-- `master::put_row` meets its contract: 200 bytes copied in at a row's place are that row, the others kept. Assumes nothing.
use native.Mathlib.Omega.{arith}
use Rattle.casemaster.proofs.MovedLaws.{row_put}
use Rattle.casemaster.proofs.master.put_row.Goals as goal

pub returns : goal.returns
returns c =
    let a = c.args in
    rw c.copy_in.ensures (row_put a.m.now a.p a.row (omega arith) c.requires)
