-- `exclusions::without_eights` meets its contract. The loop's invariant: the part has the words of the field. Assumes nothing.
use mathlib.Core.Path.{◌≡◌}
use mathlib.Core.List.{[]}
use lib.ListN.{length}
use Rattle.exclusionsets.specs.Exclusions.{words_from}
use Rattle.exclusionsets.proofs.exclusions.without_eights.Given as goal

abbrev pub invariant-loop-front : goal.invariant-loop-front
invariant-loop-front l = words_from [] l.part ≡ words_from [] l.s

abbrev pub decreases-loop-front : goal.decreases-loop-front
decreases-loop-front l = length l.part
