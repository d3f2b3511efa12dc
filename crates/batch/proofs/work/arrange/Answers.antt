-- `work::arrange`: the details in key order are what counting asks for. Assumes nothing.
use native.Mathlib.Omega.{arith}
use Rattle.batch.proofs.ArrangedLaws.{own_in, arranged}
use Rattle.batch.proofs.work.arrange.Goals as goal

pub overflow_sub-d : goal.overflow_sub-d
overflow_sub-d c = omega (arith, c.requires.batch_in)

pub order_details-own-requires : goal.order_details-own-requires
order_details-own-requires c =
    let r = c.requires in
    (omega (arith, r.batch_in), r.slots, r.few)

pub new_rows-new-requires : goal.new_rows-new-requires
new_rows-new-requires c =
    let a = c.args in
    let r = c.requires in (
      r.rows_in,
      r.sound,
      own_in a.setting.state.now a.setting.year a.setting.locals.list.now a.batch.now a.m.now a.n a.numbers.now r _ _ c.order_details-own.ensures,
      r.two,
    )

pub returns : goal.returns
returns c =
    let a = c.args in
    arranged a.setting.state.now a.setting.year a.setting.locals.list.now a.batch.now a.m.now a.n a.numbers.now c.requires _ _ c.order_details-own.ensures
    _ c.new_rows-new.ensures
