-- `work::work`: each part leaves what the next is given. Assumes nothing.
use mathlib.Core.Path.{refl}
use Rattle.batch.proofs.PassedLaws.{passed}
use Rattle.batch.proofs.KnownLaws.{known}
use Rattle.batch.proofs.WorkedLaws.{arrange_ready, move_ready, note_ready, all_worked}
use Rattle.batch.specs.Call.{call_of}
use Rattle.batch.proofs.work.work.Goals as goal

pub arrange-a-requires : goal.arrange-a-requires
arrange-a-requires c =
    let a = c.args in
    let g = call_of a.m.now a.n a.batch.now a.setting.locals.list.now a.setting.year a.verdicts.now a.rejects.now in
    let k = known g (passed g c.requires.rejects_value.0) in
    arrange_ready g k refl a.setting.state.now c.requires.rejects_value.1

pub move_rows-moved-requires : goal.move_rows-moved-requires
move_rows-moved-requires c =
    let a = c.args in
    let g = call_of a.m.now a.n a.batch.now a.setting.locals.list.now a.setting.year a.verdicts.now a.rejects.now in
    let k = known g (passed g c.requires.rejects_value.0) in
    move_ready g k refl a.setting.state.now _ _ _ c.arrange-a.ensures a.wanted a.journal.now c.requires.batch_in_bounds

pub note_verdicts-progress-requires : goal.note_verdicts-progress-requires
note_verdicts-progress-requires c =
    let a = c.args in
    let g = call_of a.m.now a.n a.batch.now a.setting.locals.list.now a.setting.year a.verdicts.now a.rejects.now in
    let k = known g (passed g c.requires.rejects_value.0) in
    note_ready g k refl a.setting.state.now _ _ _ c.arrange-a.ensures _ a.wanted a.journal.now _ _ _ _ c.move_rows-moved.ensures

pub shape_of-m : goal.shape_of-m
shape_of-m c = c.move_rows-moved.auto.m

pub returns : goal.returns
returns c =
    let a = c.args in
    let g = call_of a.m.now a.n a.batch.now a.setting.locals.list.now a.setting.year a.verdicts.now a.rejects.now in
    let k = known g (passed g c.requires.rejects_value.0) in
    all_worked g k refl a.setting.state.now _ _ _ c.arrange-a.ensures _ a.wanted a.journal.now _ _ _ _ c.move_rows-moved.ensures c.requires.rejects_value.1 _ _ _
    c.note_verdicts-progress.ensures
