-- `testing::place_tested`: without an entry left the row stays. Assumes nothing.
use Rattle.takeback.proofs.PlaceLaws.{kept_behind}
use Rattle.takeback.proofs.testing.place_tested.Goals as goal

pub returns : goal.returns
returns c =
    let a = c.args in
    kept_behind a.m.now a.p a.journal.now a.s _ c.followed.ensures c.requires.1 c.if-at-journal.false
