-- `post::post_at` meets its contract: the row is put back exactly where the line is posted. Assumes nothing.
use mathlib.Core.List.{[]}
use Rattle.posting.proofs.LineLaws.{put_left, put_done}
use Rattle.posting.proofs.post.post_at.Goals as goal

pub post_row-requires : goal.post_row-requires
post_row-requires c = (rw c.row_at-old.ensures c.requires.1, c.requires.2)

pub returns-in-Some : goal.returns-in-Some
returns-in-Some c =
    let a = c.args in
    put_done a.m.now a.p a.line.now _ _ c.row_at-old.ensures _ c.in-Some.ensures c.put_row.ensures

pub returns-in-None : goal.returns-in-None
returns-in-None c =
    let a = c.args in
    put_left a.m.now a.p a.line.now _ [] c.row_at-old.ensures c.in-None.ensures
