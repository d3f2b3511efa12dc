-- `tagged::order_tagged`: in rising numbers the ranks don't fall, and the indexes rise within a rank. Assumes nothing.
use Rattle.text.specs.Blocks.{blocks}
use Rattle.text.proofs.BlocksLaws.{length-blocks}
use Rattle.keyorder.proofs.TaggedLaws.{tagged_sorted}
use Rattle.keyorder.proofs.tagged.order_tagged.Goals as goal

pub returns : goal.returns
returns c =
    let a = c.args in
    let m = c.tag_details in
    let o = c.sort in
    tagged_sorted a.setting.state.now a.setting.year a.setting.locals.list.now (blocks 245 a.d a.batch.now) a.d a.numbers.now m.new.numbers o.new.numbers
    (length-blocks 245 a.d a.batch.now) c.requires.1 m.ensures m.auto.numbers o.ensures
