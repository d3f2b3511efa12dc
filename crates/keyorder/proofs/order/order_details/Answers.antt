-- `order::order_details`: what is in key order has ranks that don't fall. Assumes nothing.
use native.Mathlib.Omega.{arith}
use Rattle.text.specs.Blocks.{blocks}
use Rattle.keyorder.proofs.TaggedLaws.{tagged_rises}
use Rattle.keyorder.proofs.order.order_details.Goals as goal

pub own_end-requires : goal.own_end-requires
own_end-requires c =
    let a = c.args in
    let t = c.order_tagged.ensures in
    let l = c.requires.1 in
    let w = t.width in (
      omega (arith, l, w),
      tagged_rises a.setting.state.now a.setting.year a.setting.locals.list.now (blocks 245 a.d a.batch.now) a.d a.numbers.now _ t (omega (arith, l, w)),
    )

pub returns : goal.returns
returns c = record { order = c.order_tagged.ensures; own_end = c.own_end.ensures }
