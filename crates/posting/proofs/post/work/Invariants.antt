-- `post::work` meets its contract: what is done and what is left make the whole, whatever the hints are. Assumes nothing.
use Rattle.posting.proofs.WorkLaws.{Going}
use Rattle.posting.proofs.post.work.Given as goal

abbrev pub invariant-loop-i : goal.invariant-loop-i
invariant-loop-i l = Going l.initial.m l.n l.file l.count l.initial.lines l.m l.lines l.k l.i
