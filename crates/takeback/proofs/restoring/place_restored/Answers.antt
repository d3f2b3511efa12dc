-- `restoring::place_restored`: without an entry left every row stays. Assumes nothing.
use Rattle.takeback.proofs.RestoringLaws.{none_later}
use Rattle.takeback.proofs.restoring.place_restored.Goals as goal

pub returns : goal.returns
returns c =
    let a = c.args in
    λ g. c.row_kept.ensures g (none_later a.m.now a.p a.journal.now a.s a.m.now a.s c.if-at-journal.false g)
