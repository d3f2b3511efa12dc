-- Document 01, "Applying a batch": all that is lent to the call. Assumes nothing.
use Rattle.std.specs.Prelude.{ℕ, List}
use Rattle.layout.specs.Limits.{max_rows}
use Rattle.layout.specs.Batch.{details_of, submitting_state}
use Rattle.turns.specs.Settings.{Settings, settings_of}

-- all that is lent to a call
pub record Call : Type 0 where
  pub master : List ℕ
  pub rows : ℕ
  pub batch : List ℕ
  pub locals : List ℕ
  pub year : ℕ
  pub verdicts : List ℕ
  pub rejects : List ℕ
  -- the most rows and details, which refusals 3, 5 and 9 take; nothing else does
  pub limit : ℕ

-- the call, from what is lent, with the limit that the code has
abbrev pub call_of : List ℕ → ℕ → List ℕ → List ℕ → ℕ → List ℕ → List ℕ → Call
call_of master rows batch locals year verdicts rejects =
    record {
      master = master;
      rows = rows;
      batch = batch;
      locals = locals;
      year = year;
      verdicts = verdicts;
      rejects = rejects;
      limit = max_rows;
    }

-- what its judgements go by: the control record's state, the year, the list, and under each key the names that its details give
abbrev pub call_settings : Call → Settings
call_settings c = settings_of (submitting_state c.batch) c.year c.locals (details_of c.batch)
