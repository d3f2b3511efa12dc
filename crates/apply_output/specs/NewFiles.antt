-- Document 01, "The printed line": the files that apply-batch writes, master.bin and rejects.bin. Assumes nothing.
use Rattle.std.specs.Prelude.{ℕ, ◌+◌, ◌*◌, List, [], ◌∷◌, cond, eqb, take}
use Rattle.answers.specs.Answer.{Answer, refused, done}
use Rattle.batch.specs.Apply.{ApplyResult, ApplyBuffers, ApplyOutcome}
use Rattle.apply_output.specs.declared.new_files.NewFiles.{NewFiles}
use Rattle.std.specs.Prelude.{Option, Some, None}

-- how many records the reject file has: one for each verdict number that isn't zero, and the control record
unfoldable pub record_count : List ℕ → ℕ
record_count [] = 1
record_count (v ∷ vs) = cond (eqb v 0) 0 1 + record_count vs

-- master.bin: the rows alone, 200 bytes each, at the front of the master that the call leaves
abbrev pub master_file : ℕ → List ℕ → List ℕ
master_file rows master = take (rows * 200) master

-- rejects.bin: the reject file alone, 245 bytes a record, at the front of the reject buffer that the call leaves
abbrev pub reject_file : ℕ → (verdicts rejects : List ℕ) → List ℕ
reject_file details verdicts rejects = take (record_count (take details verdicts) * 245) rejects

-- what a run writes: no file, or both whole
pub data Files : Type 0 where
  no_file : Files
  both_files : (master rejects : List ℕ) → Files

-- by the answer: a refusal writes no file
abbrev pub files_by : Answer ApplyResult → (details : ℕ) → ApplyBuffers → Files
files_by (refused n) details buffers = no_file
files_by (done r) details buffers = both_files (master_file r.rows buffers.master) (reject_file details buffers.verdicts buffers.rejects)

-- the files of a call with `details` details, from its outcome
abbrev pub files_of : ℕ → ApplyOutcome → Files
files_of details o = files_by o.answer details o.buffers

-- what each answer stands for: none, or bytes at the front of the two buffers
abbrev pub files_in : Option NewFiles → (master rejects : List ℕ) → Files
files_in None master rejects = no_file
files_in (Some f) master rejects = both_files (take f.master master) (take f.rejects rejects)
