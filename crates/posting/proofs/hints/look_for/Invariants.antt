-- `hints::look_for`: behind each place there are as many rows as are left. Assumes nothing.
use Rattle.posting.specs.Hints.{HintsWithin}
use Rattle.posting.proofs.hints.look_for.Given as goal

abbrev pub invariant-loop-left : goal.invariant-loop-left
invariant-loop-left l = HintsWithin l.n l.left l.places

abbrev pub decreases-loop-left : goal.decreases-loop-left
decreases-loop-left l = l.left
