-- `tagged::tag`: each part is below the place of the next, so it is read again. Assumes nothing.
use Rattle.keyorder.proofs.TaggedLaws.{tag_parts}
use Rattle.keyorder.proofs.tagged.tag.Goals as goal

pub returns : goal.returns
returns c =
    let a = c.args in
    let p = c.requires in
    tag_parts a.rank a.i a.kind c.one_if-g.result c.one_if-l.result c.one_if-w.result a.gives a.local a.wrong
    p.0 p.1 p.2 c.one_if-g.ensures.1 c.one_if-l.ensures.1 c.one_if-w.ensures.1 c.one_if-g.ensures.0 c.one_if-l.ensures.0 c.one_if-w.ensures.0
