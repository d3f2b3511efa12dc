-- `worked::work_alone`. The invariant: the details before q are judged on no row, the numbers from q on are as at entry. Assumes nothing.
use Prim.Native.Nat.{ℕ, ◌≤◌}
use mathlib.Core.Path.{◌≡◌}
use lib.ListN.{length, get_or}
use Rattle.keywork.specs.Worked.{UnderAlone, AloneWorked}
use Rattle.keywork.proofs.worked.work_alone.Given as goal

abbrev pub invariant-loop-q : goal.invariant-loop-q
invariant-loop-q l =
    (length l.numbers ≡ length l.initial.numbers)
    × ((k : ℕ) → l.q ≤ k → get_or l.numbers k 0 ≡ get_or l.initial.numbers k 0)
    × UnderAlone l.setting.state.now l.setting.year l.setting.locals.list.now l.batch l.initial.numbers l.p l.e (λ setting.
    AloneWorked setting l.batch l.p l.q l.initial.numbers l.numbers)
