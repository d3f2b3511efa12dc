-- For the contracts of inner functions; no rule of the papers stands here.
-- All details worked. Assumes nothing.
use Rattle.std.specs.Prelude.{ℕ, ◌*◌, ◌≤◌, ◌≡◌, List, length, take, drop}
use Rattle.text.specs.Blocks.{blocks}
use Rattle.casemaster.specs.Master.{rows_of}
use Rattle.rejectfile.specs.Rejects.{numbers, reject_records}
use Rattle.rejectfile.specs.Tally.{counts_in, AtMost}
use Rattle.rejectfile.specs.Counts.{counts_of}
use Rattle.batch.specs.Apply.{call_rows, call_verdicts}
use Rattle.rejectfile.specs.declared.counts.Tally.{Tally}
use Rattle.layout.specs.Batch.{detail_count, details_of}
use Rattle.batch.specs.Call.{Call}

-- all details worked: the rows, the numbers, the reject records and the counts are the call's, and the rest is kept
pub record Worked (c : Call) (master : List ℕ) (n : ℕ) (verdicts rejects : List ℕ) (k : ℕ) (t : Tally) : Type 0 where
  pub rows_are : rows_of n master ≡ call_rows c
  pub rows_in : n * 200 ≤ length master
  pub rows_kept : drop (n * 200) master ≡ drop (n * 200) c.master
  pub numbers_are : take (detail_count c.batch) verdicts ≡ numbers (call_verdicts c)
  pub numbers_kept : drop (detail_count c.batch) verdicts ≡ drop (detail_count c.batch) c.verdicts
  pub rejects_are : blocks 245 k rejects ≡ reject_records (details_of c.batch) (call_verdicts c)
  pub rejects_few : k ≤ detail_count c.batch
  pub rejects_kept : drop (k * 245) rejects ≡ drop (k * 245) c.rejects
  pub counts_are : counts_in t ≡ counts_of (details_of c.batch) (call_verdicts c)
  pub counted : AtMost (detail_count c.batch) t
