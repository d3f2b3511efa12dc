-- `year::year_of`: a text of length four is its four bytes, and any other is refused by its length. Assumes nothing.
use mathlib.Core.Option.{some}
use mathlib.Core.Path.{sym, ap, ◌∙◌}
use Rattle.apply_files.proofs.YearLaws.{wrong_length, no_digits, four_digits}
use Rattle.apply_files.proofs.year.year_of.Goals as goal

pub returns-then-text-ne4 : goal.returns-then-text-ne4
returns-then-text-ne4 c = wrong_length c.args.text.now c.if-text-ne4.true

pub returns-then-are_digits : goal.returns-then-are_digits
returns-then-are_digits c = ap some c.number_of.ensures ∙ four_digits c.args.text.now c.if-text-ne4.false (sym c.are_digits.ensures ∙ c.if-are_digits.true)

pub returns-else-are_digits : goal.returns-else-are_digits
returns-else-are_digits c = no_digits c.args.text.now c.if-text-ne4.false (sym c.are_digits.ensures ∙ c.if-are_digits.false)
