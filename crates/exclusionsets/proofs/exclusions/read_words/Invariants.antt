-- `exclusions::read_words` meets its contract. The outer invariant: the words that are left, read onto the set, give the answer.
-- The inner one: the word is none of the first n names. Assumes nothing.
use mathlib.Core.Path.{◌≡◌}
use mathlib.Core.List.{[]}
use Prim.Native.Nat.{◌+◌, ◌-◌, ◌≤◌}
use lib.ListN.{length, drop}
use Rattle.exclusionsets.specs.Exclusions.{exclusion_names, words_from, place_among, read_onto, exclusions_of}
use Rattle.exclusionsets.proofs.ExclusionsLaws.{first_word}
use Rattle.exclusionsets.proofs.exclusions.read_words.Given as goal

abbrev pub invariant-words : goal.invariant-words
invariant-words l = exclusions_of l.s ≡ read_onto l.set (words_from [] (drop l.at l.s))

abbrev pub decreases-words : goal.decreases-words
decreases-words l = length l.s - l.at

abbrev pub invariant-names : goal.invariant-names
invariant-names l =
    (l.set ≡ l.initial.set) × (l.at ≡ l.initial.at) × (l.n ≤ 8)
    × (place_among (first_word (drop l.initial.at l.s)) exclusion_names ≡ l.n + place_among (first_word (drop l.initial.at l.s)) (drop l.n exclusion_names))

abbrev pub decreases-names : goal.decreases-names
decreases-names l = 8 - l.n
