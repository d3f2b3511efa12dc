use mathlib.Core.Path.{refl, sym, ◌∙◌}
use native.Mathlib.Omega.{arith}
use lib.ListN.{length-set}
use Rattle.text.proofs.BlocksLaws.{blocks_get}
use Rattle.keyorder.specs.Tagged.{Tagged}
use Rattle.keyorder.proofs.TaggedLaws.{tagged_none, tagged_next, tagged_all}
use Rattle.keyorder.proofs.tagged.tag_details.Goals as goal

pub loop-i-init : goal.loop-i-init
loop-i-init c = (refl, tagged_none _ _ _ _ _)

pub loop-i-preserved : goal.loop-i-preserved
loop-i-preserved c =
    let a = c.args in
    let l = c.loop-i in
    let t = c.loop-i-test.true in
    let e = sym (blocks_get 245 a.d a.batch.now l.i t) in
    let x : Tagged a.setting.state.now a.setting.year a.setting.locals.list.now l.i _ c.tag_detail.result = rw e at c.tag_detail.ensures in (
      length-set l.numbers l.i c.tag_detail.result ∙ l.invariant.0,
      tagged_next _ _ _ _ _ l.i l.numbers _ l.invariant.1 (omega (arith, t, l.invariant.0, c.requires.1)) x,
    )

pub returns : goal.returns
returns c = tagged_all _ _ _ _ _ c.loop-i.i _ c.loop-i.numbers c.loop-i.auto.i-end c.loop-i-test.false c.loop-i.invariant.1
