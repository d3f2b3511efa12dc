-- `codes::sweep`: the codes before the index are swept, and the last name given among them is known; as no code falls, no earlier name is
-- needed. Assumes nothing.
use Rattle.namemarks.specs.Codes.{swept}
use Rattle.namemarks.proofs.MappedLaws.{Mapped}
use Rattle.namemarks.proofs.SweepLaws.{LastGiven}
use Rattle.namemarks.proofs.codes.sweep.Given as goal

abbrev pub invariant-loop-number : goal.invariant-loop-number
invariant-loop-number l =
    (Mapped (swept l.rank l.initial.numbers) l.initial.numbers l.numbers l.number-index) × (LastGiven l.initial.numbers l.number-index l.given)
