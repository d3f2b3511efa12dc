-- `work::start_journal`: the flag decides what is written. Assumes nothing.
use Rattle.journalwalk.proofs.KeyEntryLaws.{wrote_none}
use Rattle.batch.proofs.work.start_journal.Goals as goal

pub put_counts-requires : goal.put_counts-requires
put_counts-requires c = c.requires c.if-wanted.true

pub returns-then-wanted : goal.returns-then-wanted
returns-then-wanted c = rw c.if-wanted.true c.put_counts.ensures

pub returns : goal.returns
returns c = wrote_none c.args.journal.now 0 _ (rw c.if-wanted.false)
