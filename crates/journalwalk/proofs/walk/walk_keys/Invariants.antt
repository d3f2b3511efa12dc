-- `walk::walk_keys`: the rows passed, those to come and the keys to come make the whole, and the entries written are those of the rows
-- passed. Assumes nothing.
use Rattle.keywalk.specs.Walking.{WalkReady, fixed_of, start_of}
use Rattle.journalwalk.specs.JournalWalk.{stand_of}
use Rattle.keywalk.proofs.WalkingLaws.{Walking}
use Rattle.journalwalk.proofs.JournalingLaws.{Journaling}
use Prim.Native.Nat.{◌-◌}
use Rattle.journalwalk.proofs.walk.walk_keys.Given as goal

abbrev pub invariant-loop-s : goal.invariant-loop-s
invariant-loop-s l =
    (w : WalkReady (fixed_of l.setting.state.now l.setting.year l.setting.locals.list.now l.batch l.own l.end) (start_of l.from l.initial.m l.initial.numbers))
    × (Walking (fixed_of l.setting.state.now l.setting.year l.setting.locals.list.now l.batch l.own l.end) (start_of l.from l.initial.m l.initial.numbers) w (stand_of l.s l.m l.numbers)
    × Journaling (fixed_of l.setting.state.now l.setting.year l.setting.locals.list.now l.batch l.own l.end) (start_of l.from l.initial.m l.initial.numbers) l.wanted l.initial.journal l.at (stand_of l.s l.m l.numbers) l.journal l.s.written)

abbrev pub decreases-loop-s : goal.decreases-loop-s
decreases-loop-s l = l.own - l.s.position
