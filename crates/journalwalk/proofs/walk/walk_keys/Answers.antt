use mathlib.Core.Path.{refl}
use Rattle.keywalk.specs.Walking.{fixed_of, start_of}
use Rattle.keywalk.proofs.WalkingLaws.{walking_start, walking_rises, walking_room, walking_sorted, walking_next}
use Rattle.journalwalk.proofs.JournalingLaws.{journaling_start, journaling_room, journaling_next, journaling_done}
use native.Mathlib.Omega.{arith}
use Rattle.journalwalk.proofs.walk.walk_keys.Goals as goal

pub loop-s-init : goal.loop-s-init
loop-s-init c =
    let a = c.args in
    let w = c.requires.walk_ready in
    let f = fixed_of a.setting.state.now a.setting.year a.setting.locals.list.now a.batch.now a.own a.end in
    let s = start_of a.from a.m.now a.numbers.now in
    (w, (walking_start f s w refl refl, journaling_start f s a.wanted a.journal.now a.at refl refl c.requires.journal_room))

pub walk_key-s-requires : goal.walk_key-s-requires
walk_key-s-requires c =
    let a = c.args in
    let l = c.loop-s in
    let w = l.invariant.0 in
    let g = l.invariant.1.0 in
    let n = l.invariant.1.1 in
    let t = c.loop-s-test.true in
    let f = fixed_of a.setting.state.now a.setting.year a.setting.locals.list.now a.batch.now a.own a.end in
    let s = start_of a.from a.m.now a.numbers.now in
    record {
      position_lt_own = (t, walking_sorted f s w _ g);
      to_le_from = (g.low, g.within, omega (arith, g.len, w.rows_in), walking_rises f s w _ g);
      stays_before = walking_room f s w _ g t;
      key_room = journaling_room f s a.wanted a.journal.now a.at w _ g _ _ n t;
    }

pub loop-s-smaller : goal.loop-s-smaller
loop-s-smaller c =
    let k = c.walk_key-s.ensures.walked.worked.ended in omega (arith, k.later, c.loop-s-test.true)

pub loop-s-preserved : goal.loop-s-preserved
loop-s-preserved c =
    let a = c.args in
    let l = c.loop-s in
    let w = l.invariant.0 in
    let g = l.invariant.1.0 in
    let n = l.invariant.1.1 in
    let k = c.walk_key-s in
    let t = c.loop-s-test.true in
    let f = fixed_of a.setting.state.now a.setting.year a.setting.locals.list.now a.batch.now a.own a.end in
    let s = start_of a.from a.m.now a.numbers.now in
    (w, (walking_next f s w _ g t _ k.ensures.walked k.auto.m, journaling_next f s a.wanted a.journal.now a.at w _ g _ _ n t _ _ _ k.ensures))

pub shape_of-m : goal.shape_of-m
shape_of-m c = c.loop-s.invariant.1.0.len

pub shape_of-numbers : goal.shape_of-numbers
shape_of-numbers c = c.loop-s.invariant.1.0.same.len

pub shape_of-journal : goal.shape_of-journal
shape_of-journal c = c.loop-s.invariant.1.1.len

pub returns : goal.returns
returns c =
    let a = c.args in
    let l = c.loop-s in
    let f = fixed_of a.setting.state.now a.setting.year a.setting.locals.list.now a.batch.now a.own a.end in
    let s = start_of a.from a.m.now a.numbers.now in
    journaling_done f s a.wanted a.journal.now a.at l.invariant.0 _ l.invariant.1.0 _ _ l.invariant.1.1 c.loop-s-test.false
