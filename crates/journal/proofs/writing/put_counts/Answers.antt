-- `writing::put_counts`: the second count stands behind the first. Assumes nothing.
use Rattle.journal.proofs.WritingLaws.{wrote_counts}
use Rattle.journal.proofs.writing.put_counts.Goals as goal

pub returns : goal.returns
returns c =
    let a = c.args in
    wrote_counts a.journal.now _ _ a.before a.after _ _ c.requires c.put_number-i.ensures.0 c.put_number-i.ensures.1 c.put_number.ensures.0 c.put_number.ensures.1
