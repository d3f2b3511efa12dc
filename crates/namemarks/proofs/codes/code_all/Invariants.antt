-- `codes::code_all`: the numbers before the index are coded, the others as they were. Assumes nothing.
use Rattle.namemarks.specs.Codes.{name_code}
use Rattle.namemarks.proofs.MappedLaws.{Mapped}
use Rattle.namemarks.proofs.codes.code_all.Given as goal

abbrev pub invariant-loop-number : goal.invariant-loop-number
invariant-loop-number l = Mapped (name_code l.state l.batch) l.initial.numbers l.numbers l.number-index
