-- `work::move_rows`: the rows moved up leave room before them, and the counts at the front of the journal room behind. Assumes nothing.
use native.Mathlib.Omega.{arith}
use mathlib.Core.Path.{◌∙◌}
use Rattle.batch.proofs.MovedLaws.{counts_room, walk_ready, room_ready, moved}
use Rattle.batch.proofs.work.move_rows.Goals as goal

pub overflow_add-rows : goal.overflow_add-rows
overflow_add-rows c = omega (arith, c.requires.rows_in, c.well_formed.0)

pub shift_rows-requires : goal.shift_rows-requires
shift_rows-requires c = c.requires.rows_in

pub start_journal-at-requires : goal.start_journal-at-requires
start_journal-at-requires c =
    let a = c.args in
    counts_room a.setting.state.now a.setting.year a.setting.locals.list.now a.batch.now a.own a.new a.n a.m.now a.numbers.now a.wanted a.journal.now c.requires

pub walk_keys-written-requires : goal.walk_keys-written-requires
walk_keys-written-requires c =
    let a = c.args in
    let raised = c.shift_rows.ensures in record { walk_ready = walk_ready a.setting.state.now a.setting.year a.setting.locals.list.now a.batch.now a.own a.new a.n a.m.now a.numbers.now a.wanted a.journal.now c.requires _ raised; journal_room = room_ready a.setting.state.now a.setting.year a.setting.locals.list.now a.batch.now a.own a.new a.n a.m.now a.numbers.now a.wanted a.journal.now c.requires _ raised _ _ c.start_journal-at.ensures }

pub shape_of-m : goal.shape_of-m
shape_of-m c = c.walk_keys-written.auto.m ∙ c.shift_rows.auto.m

pub returns : goal.returns
returns c =
    let a = c.args in
    moved a.setting.state.now a.setting.year a.setting.locals.list.now a.batch.now a.own a.new a.n a.m.now a.numbers.now a.wanted a.journal.now c.requires _ c.shift_rows.ensures
    _ _ c.start_journal-at.ensures _ _ _ _ c.walk_keys-written.ensures (c.walk_keys-written.auto.m ∙ c.shift_rows.auto.m)
