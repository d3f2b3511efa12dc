-- `runs::own_end`: as ranks don't fall, the own ones come first, and the partition point ends them. Assumes nothing.
use borrow.Author.Rules.{rules}
use Rattle.std.proofs.lemmas.List.Sorted.{IsPartitionPoint-from_clause}
use Rattle.keyorder.proofs.RunLaws.{is_own, own_first, own_point}
use Rattle.keyorder.proofs.runs.own_end.Goals as goal

pub returns : goal.returns
returns c =
    let a = c.args in
    let q = c.requires in
    let p = c.partition_point.ensures in
    own_point a.d a.numbers.now q.0 q.1 _ p.bound
    (IsPartitionPoint-from_clause is_own _ _ p.partitioned (own_first a.d a.numbers.now q.0 q.1) (λ x r f k. search rules))
