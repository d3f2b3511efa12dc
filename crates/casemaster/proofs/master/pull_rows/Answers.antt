-- `master::pull_rows` meets its contract: the bytes of the rows are copied at once. Assumes nothing.
use native.Mathlib.Omega.{arith}
use Rattle.casemaster.proofs.MovedLaws.{pulled, pulled_same}
use Rattle.casemaster.proofs.master.pull_rows.Goals as goal

pub returns-then-from-to : goal.returns-then-from-to
returns-then-from-to c =
    let a = c.args in
    rw c.if-from-to.true (pulled_same a.m.now a.to a.count)

pub returns : goal.returns
returns c =
    let a = c.args in
    rw c.copy_within.ensures.after (pulled a.m.now a.from a.to a.count _ (omega arith) (omega arith) (omega arith))
