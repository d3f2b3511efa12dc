-- `worked::work_run`. The invariant: the details before q are worked one behind the other on the row, the numbers from q on are as at entry.
-- Assumes nothing.
use Rattle.onecase.specs.Machine.{row_of}
use Prim.Native.Nat.{ℕ, ◌≤◌}
use mathlib.Core.Path.{◌≡◌}
use lib.ListN.{length, get_or}
use Rattle.keywork.specs.Worked.{UnderTags, RunWorked}
use Rattle.keywork.proofs.worked.work_run.Given as goal

abbrev pub invariant-loop-q : goal.invariant-loop-q
invariant-loop-q l =
    (length l.numbers ≡ length l.initial.numbers)
    × ((k : ℕ) → l.q ≤ k → get_or l.numbers k 0 ≡ get_or l.initial.numbers k 0)
    × UnderTags l.setting.state.now l.setting.year l.setting.locals.list.now l.batch l.initial.numbers l.p l.e (λ setting.
    RunWorked setting l.batch l.p l.q (row_of l.initial.left) (row_of l.left) l.initial.numbers l.numbers)
