-- `exclusions::exclusion_field` meets its contract: the loop keeps what is written and what is left to write equal to the whole text, and spaces behind it. Assumes nothing.
use mathlib.Core.Path.{◌≡◌}
use mathlib.Core.List.{◌++◌}
use Prim.Native.Nat.{◌*◌, ◌≤◌}
use lib.ListN.{length, take, drop}
use Rattle.text.specs.Fields.{spaces}
use Rattle.exclusionsets.specs.Exclusions.{exclusion_names}
use Rattle.exclusionsets.specs.ExclusionText.{names_in, exclusion_text}
use Rattle.exclusionsets.proofs.WordsWrittenLaws.{rest_of}
use Rattle.exclusionsets.proofs.exclusions.exclusion_field.Given as goal

abbrev pub invariant-loop-word : goal.invariant-loop-word
invariant-loop-word l =
    (l.at ≤ 4 * l.word-index) × (length l.out ≡ 40) × (drop l.at l.out ≡ drop l.at (spaces 40))
    × (take l.at l.out ++ rest_of l.at (names_in l.left (drop l.word-index exclusion_names)) ≡ exclusion_text l.set)
