-- For the contracts of inner functions; no rule of the papers stands here.
-- A verdict written. Assumes nothing.
use Rattle.std.specs.Prelude.{ℕ, ◌+◌, ◌≤◌, ◌<◌, ◌^◌, ◌≡◌, List, ◌++◌, not, eqb, set}
use Rattle.text.specs.Blocks.{blocks, Holds}
use Rattle.onecase.specs.Verdict.{meaning, says_accepted}
use Rattle.onecase.specs.declared.verdict.Verdict.{Verdict}
use Rattle.rejectfile.specs.Rejects.{reject_record, if_any}
use Rattle.rejectfile.specs.Tally.{Counted}
use Rattle.rejectfile.specs.Answers.{set_in}
use Rattle.rejectfile.specs.declared.verdicts.Progress.{Progress}

-- a verdict written: its number, its reject record if it has a code, and the counts
pub record Recorded (rec : List ℕ) (verdict : Verdict) (s : Progress) (i : ℕ) (verdicts rejects : List ℕ) (r : Progress) (verdicts' rejects' : List ℕ) : Type 0 where
  pub fits : set_in verdict < 2 ^ 64
  pub rows_is : r.rows ≡ s.rows
  pub number_is : verdicts' ≡ set verdicts i (set_in verdict)
  pub rejects_are : Holds 245 rejects rejects' r.rejects (blocks 245 s.rejects rejects ++ if_any (meaning verdict).codes (reject_record rec (meaning verdict)))
  pub rejects_low : s.rejects ≤ r.rejects
  pub rejects_high : r.rejects ≤ s.rejects + 1
  pub counted : Counted rec i (says_accepted verdict) (not (eqb (set_in verdict) 0)) s.tally r.tally
