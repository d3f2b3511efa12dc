-- `testing::all_tested`: the tests left at each place say what they said at the first; behind the last place no entry and no mark may be
-- missing. Assumes nothing.
use Rattle.takeback.proofs.TestingLaws.{Testing}
use Rattle.takeback.proofs.testing.all_tested.Given as goal

abbrev pub invariant-loop-p : goal.invariant-loop-p
invariant-loop-p l = Testing l.m l.n l.journal l.before l.at l.s l.p
