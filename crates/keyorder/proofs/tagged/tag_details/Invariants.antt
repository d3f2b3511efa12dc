-- `tagged::tag_details`. The invariant: the numbers of the first i details stand, the rest is kept. Assumes nothing.
use mathlib.Core.Path.{◌≡◌}
use lib.ListN.{length}
use Rattle.text.specs.Blocks.{blocks}
use Rattle.keyorder.specs.Tagged.{TaggedAll}
use Rattle.keyorder.proofs.tagged.tag_details.Given as goal

abbrev pub invariant-loop-i : goal.invariant-loop-i
invariant-loop-i l =
    (length l.numbers ≡ length l.initial.numbers)
    × TaggedAll l.setting.state.now l.setting.year l.setting.locals.list.now (blocks 245 l.d l.batch) l.i l.initial.numbers l.numbers
