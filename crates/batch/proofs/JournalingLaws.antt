-- The journal of a call, from the rows that the work left. Assumes nothing.
use Prim.Native.Nat.{ℕ}
use mathlib.Core.Path.{◌≡◌, subst}
use mathlib.Core.Bool.{Bool}
use mathlib.Core.List.{List}
use Rattle.casemaster.specs.Master.{rows_of}
use Rattle.journal.specs.Writing.{Wrote}
use Rattle.batch.specs.Call.{Call}
use Rattle.batch.specs.Apply.{call_rows}
use Rattle.batch.specs.Journaling.{whole_journal, journal_wanted}

-- the journal of the rows that the work left is the call's, and its length is answered
pub run_wrote : (c : Call) (wanted : Bool) (journal : List ℕ) (n : ℕ) (master journal' : List ℕ) (written answered : ℕ) → rows_of n master ≡ call_rows c
    → Wrote journal 0 (whole_journal wanted (rows_of c.rows c.master) (rows_of n master)) journal' written → answered ≡ written
    → Wrote journal 0 (journal_wanted c wanted) journal' answered
run_wrote c wanted journal n master journal' written answered e w l =
    rw l (subst (λ (z : List (List ℕ)). Wrote journal 0 (whole_journal wanted (rows_of c.rows c.master) z) journal' written) e w)
