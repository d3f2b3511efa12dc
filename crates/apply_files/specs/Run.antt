-- Document 01, "The printed line": what apply-batch makes of the bytes of its files. Assumes nothing.
use Rattle.std.specs.Prelude.{ℕ, ◌/◌, ◌%◌, List, ◌++◌, cond, eqb, take, drop}
use Rattle.std.proofs.Math.Option.{Option, none, some}
use Rattle.answers.specs.Answer.{refused}
use Rattle.batch.specs.Apply.{ApplyOutcome, apply_outcome}
use Rattle.std.specs.Prelude.{Some, None}
use Rattle.std.specs.Prelude as Code
use Rattle.apply_files.specs.Limits.{master_space, size_of, refusal0}
use Rattle.apply_files.specs.Year.{year_in}
use Rattle.batch.specs.Call.{call_of}

-- the bytes of a file, at the front of the buffer that it was read into
abbrev pub length_in : Code.Option ℕ → ℕ
length_in None = 0
length_in (Some n) = n

abbrev pub bytes_in : Code.Option ℕ → List ℕ → List ℕ
bytes_in file buffer = take (length_in file) buffer

-- how much of the master's buffer the call is lent: the 200 rows; a master.bin of no multiple of 200 bytes alone, for refusal 3
unfoldable pub lent_length : ℕ → ℕ
lent_length n = cond (eqb (n % 200) 0) master_space n

-- a refusal leaves every buffer alone
abbrev pub unchanged : ℕ → (master verdicts rejects : List ℕ) → ApplyOutcome
unchanged n master verdicts rejects =
    record { answer = refused n; buffers = record { master = master; verdicts = verdicts; rejects = rejects } }

-- the call's outcome on a master.bin of n bytes, with the rest of the buffer as it was
abbrev pub with_rest : List ℕ → ApplyOutcome → ApplyOutcome
with_rest rest o =
    record {
      answer = o.answer;
      buffers = record { master = o.buffers.master ++ rest; verdicts = o.buffers.verdicts; rejects = o.buffers.rejects };
    }

unfoldable pub year_outcome : (master : List ℕ) (n : ℕ) (batch locals : List ℕ) (year : ℕ) (verdicts rejects : List ℕ) → ApplyOutcome
year_outcome master n batch locals year verdicts rejects =
    with_rest (drop (lent_length n) master)
    (apply_outcome (call_of (take (lent_length n) master) (n / 200) batch locals year verdicts rejects))

-- a year.txt that isn't four ASCII digits is refusal 1
abbrev pub by_year : Option ℕ → (master : List ℕ) (n : ℕ) (batch locals verdicts rejects : List ℕ) → ApplyOutcome
by_year none master n batch locals verdicts rejects = unchanged 1 master verdicts rejects
by_year (some year) master n batch locals verdicts rejects = year_outcome master n batch locals year verdicts rejects

-- the run: `refused 0` before all else, then the year's text, then the call with its own refusals in order
unfoldable pub run_outcome : (m b l y : Code.Option ℕ) (master batch locals year verdicts rejects : List ℕ) → ApplyOutcome
run_outcome m b l y master batch locals year verdicts rejects =
    cond (refusal0 (size_of m) (size_of b) (size_of l) (size_of y)) (unchanged 0 master verdicts rejects)
    (by_year (year_in (bytes_in y year)) master (length_in m) (bytes_in b batch) (bytes_in l locals) verdicts rejects)
