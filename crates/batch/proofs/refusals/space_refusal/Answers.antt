-- `refusals::space_refusal`: each answer stands behind the tests before it. Assumes nothing.
use mathlib.Core.Path.{sym, ◌∙◌}
use Rattle.batch.proofs.ApplyLaws.{space_9, space_10, space_11, space_0}
use Rattle.batch.specs.Call.{call_of}
use Rattle.batch.proofs.refusals.space_refusal.Goals as goal

pub returns-then-lacks_room : goal.returns-then-lacks_room
returns-then-lacks_room c =
    let a = c.args in
    let g = call_of a.m.now a.n a.batch.now a.locals.now a.year a.verdicts.now a.rejects.now in
    space_9 g (sym c.lacks_room.ensures ∙ c.if-lacks_room.true)

pub returns-then-verdicts-d : goal.returns-then-verdicts-d
returns-then-verdicts-d c =
    let a = c.args in
    let g = call_of a.m.now a.n a.batch.now a.locals.now a.year a.verdicts.now a.rejects.now in
    space_10 g (sym c.lacks_room.ensures ∙ c.if-lacks_room.false) c.if-verdicts-d.true

pub returns-then-rejects-d : goal.returns-then-rejects-d
returns-then-rejects-d c =
    let a = c.args in
    let g = call_of a.m.now a.n a.batch.now a.locals.now a.year a.verdicts.now a.rejects.now in
    space_11 g (sym c.lacks_room.ensures ∙ c.if-lacks_room.false) c.if-verdicts-d.false c.if-rejects-d.true

pub returns : goal.returns
returns c =
    let a = c.args in
    let g = call_of a.m.now a.n a.batch.now a.locals.now a.year a.verdicts.now a.rejects.now in
    space_0 g (sym c.lacks_room.ensures ∙ c.if-lacks_room.false) c.if-verdicts-d.false c.if-rejects-d.false
