-- `printing::count_live`: what is counted and the lines of the rows that are left make the whole. Assumes nothing.
use mathlib.Core.Path.{◌≡◌}
use Prim.Native.Nat.{◌+◌, ◌≤◌}
use lib.ListN.{length, drop}
use Rattle.casemaster.specs.Master.{rows_of}
use Rattle.pages.specs.Pages.{case_lines}
use Rattle.pages.proofs.printing.count_live.Given as goal

abbrev pub invariant-loop-row : goal.invariant-loop-row
invariant-loop-row l =
    (l.live ≤ length l.yielded)
    × (l.live + length (case_lines (drop (length l.yielded) (rows_of l.n l.m))) ≡ length (case_lines (rows_of l.n l.m)))
