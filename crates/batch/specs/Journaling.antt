-- For the contracts of inner functions; no rule of the papers stands here.
-- A batch worked and carried out, and the journal of it where one is wanted. Assumes nothing.
use Rattle.std.specs.Prelude.{ℕ, ◌≡◌, Bool, cond, List, [], ◌++◌}
use Rattle.casemaster.specs.Master.{rows_of}
use Rattle.journal.specs.Numbers.{number_bytes}
use Rattle.journal.specs.Journal.{journal_of, journal_bytes}
use Rattle.journal.specs.Writing.{Wrote}
use Rattle.rejectfile.specs.declared.verdicts.Progress.{Progress}
use Rattle.batch.specs.Call.{Call}
use Rattle.answers.specs.Answer.{Run}
use Rattle.batch.specs.Apply.{ApplyResult, ApplyBuffers, call_rows, apply_run}
use Rattle.batch.specs.Progress.{Worked}
use Rattle.batch.specs.declared.apply.RunResult.{RunResult}

-- the bytes of the counts, where a journal is wanted
abbrev pub counts_part : Bool → ℕ → ℕ → List ℕ
counts_part wanted before after = cond wanted (number_bytes before ++ number_bytes after) []

-- the journal's bytes, where one is wanted
abbrev pub whole_journal : Bool → List (List ℕ) → List (List ℕ) → List ℕ
whole_journal wanted old new = cond wanted (journal_bytes (journal_of old new)) []

-- those of a call
abbrev pub journal_wanted : Call → Bool → List ℕ
journal_wanted c wanted = whole_journal wanted (rows_of c.rows c.master) (call_rows c)

-- all details worked, and the journal of it
pub record WorkJournaled (c : Call) (wanted : Bool) (journal master verdicts rejects : List ℕ) (p : Progress) (journal' : List ℕ) (written : ℕ) : Type 0 where
  pub worked : Worked c master p.rows verdicts rejects p.rejects p.tally
  pub wrote : Wrote journal 0 (whole_journal wanted (rows_of c.rows c.master) (rows_of p.rows master)) journal' written

-- what the result of a run stands for, the journal's length aside
abbrev pub result_of : RunResult → ApplyResult
result_of r = record { accepted = r.accepted; rejected = r.rejected; warned = r.warned; neither = r.neither; rows = r.rows }

abbrev pub ran_as : RunResult → List ℕ → List ℕ → List ℕ → Run ApplyResult ApplyBuffers
ran_as r master verdicts rejects = record { result = result_of r; buffers = record { master = master; verdicts = verdicts; rejects = rejects } }

-- a batch carried out, and the journal of it
pub record RunJournaled (c : Call) (wanted : Bool) (journal master verdicts rejects : List ℕ) (r : RunResult) (journal' : List ℕ) : Type 0 where
  pub is : ran_as r master verdicts rejects ≡ apply_run c
  pub wrote : Wrote journal 0 (journal_wanted c wanted) journal' r.written
