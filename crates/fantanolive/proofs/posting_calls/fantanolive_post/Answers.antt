-- `fantanolive_post`: each answer of `post` is written as the number and the count that its outcome stands for. Assumes nothing.
use Rattle.posting.specs.Post.{post_call}
use Rattle.fantanolive.proofs.PostingCallsLaws.{post_left_lem}
use Rattle.fantanolive.proofs.posting_calls.fantanolive_post.Goals as goal

pub returns-in-Ok : goal.returns-in-Ok
returns-in-Ok c =
    let a = c.args in
    post_left_lem (post_call a.master.now a.rows a.file.now a.lines.now) _ _ _ _ _ c.post.ensures c.in-Ok.is

pub returns-in-Err : goal.returns-in-Err
returns-in-Err c =
    let a = c.args in
    rw c.number.ensures (post_left_lem (post_call a.master.now a.rows a.file.now a.lines.now) _ _ _ _ _ c.post.ensures c.in-Err.is)
