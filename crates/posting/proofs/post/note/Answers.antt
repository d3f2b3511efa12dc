-- `post::note` meets its contract: by cases. Assumes nothing.
use native.Mathlib.Omega.{arith}
use Rattle.layout.proofs.LimitsLaws.{list_number}
use Rattle.posting.proofs.post.note.Goals as goal

pub overflow_add-i : goal.overflow_add-i
overflow_add-i c = omega (arith, list_number, c.requires.1)

pub overflow_cast-i : goal.overflow_cast-i
overflow_cast-i c = omega (arith, list_number, c.requires.1)

pub returns : goal.returns
returns c =
    let e = c.if-posted.false in
    (rw e c.list_number.ensures.0, rw e c.list_number.ensures.1)
