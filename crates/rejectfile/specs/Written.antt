-- For the contracts of inner functions; no rule of the papers stands here.
-- Numbers that hold the details' verdicts, and what is written from them. Assumes nothing.
use Rattle.std.specs.Prelude.{ℕ, ◌*◌, ◌≤◌, ◌≡◌, List, length, take, drop}
use Rattle.text.specs.Blocks.{blocks}
use Rattle.onecase.specs.Verdict.{Judgement}
use Rattle.rejectfile.specs.Rejects.{numbers as numbers_of, reject_records}
use Rattle.rejectfile.specs.Counts.{counts_of}
use Rattle.rejectfile.specs.Tally.{counts_in, AtMost}
use Rattle.rejectfile.specs.declared.counts.Tally.{Tally}

-- all verdicts written: the numbers, k reject records and the counts are the verdicts', and the rest is kept
pub record VerdictsWritten (details : List (List ℕ)) (verdicts : List Judgement) (numbers rejects numbers' rejects' : List ℕ) (k : ℕ) (t : Tally) : Type 0 where
  pub numbers_are : take (length details) numbers' ≡ numbers_of verdicts
  pub numbers_kept : drop (length details) numbers' ≡ drop (length details) numbers
  pub rejects_are : blocks 245 k rejects' ≡ reject_records details verdicts
  pub rejects_few : k ≤ length details
  pub rejects_kept : drop (k * 245) rejects' ≡ drop (k * 245) rejects
  pub counts_are : counts_in t ≡ counts_of details verdicts
  pub counted : AtMost (length details) t
