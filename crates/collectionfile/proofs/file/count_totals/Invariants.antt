-- `file::count_totals` meets its contract: those counted and those among the lines left are all. Assumes nothing.
use mathlib.Core.Path.{◌≡◌}
use Prim.Native.Nat.{◌+◌, ◌≤◌}
use lib.ListN.{length, drop}
use Rattle.text.specs.Blocks.{blocks}
use Rattle.collectionfile.specs.Line.{collected, adjusted}
use Rattle.collectionfile.specs.File.{lines_above}
use Rattle.collectionfile.proofs.file.count_totals.Given as goal

abbrev pub invariant-loop-line : goal.invariant-loop-line
invariant-loop-line l =
    (l.adjustments ≤ length l.yielded) × (l.collections ≤ length l.yielded)
    × (l.adjustments + lines_above adjusted (drop (length l.yielded) (blocks 240 l.count l.file)) ≡ lines_above adjusted (blocks 240 l.count l.file))
    × (l.collections + lines_above collected (drop (length l.yielded) (blocks 240 l.count l.file)) ≡ lines_above collected (blocks 240 l.count l.file))
