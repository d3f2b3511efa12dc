-- `errors::is_below_25` meets its contract: the number is asked for only where there are eight digits. Assumes nothing.
use mathlib.Core.Path.{sym, ◌∙◌}
use native.Mathlib.Omega.{arith}
use Rattle.text.proofs.FieldsLaws.{digits_width, digits_all}
use Rattle.judging.proofs.errors.is_below_25.Goals as goal

pub number_of-requires : goal.number_of-requires
number_of-requires c =
    let t = sym c.are_digits.ensures ∙ c.if-are_digits.true in
    (omega (arith, digits_width 8 _ t), digits_all 8 _ t)

pub returns-then-are_digits : goal.returns-then-are_digits
returns-then-are_digits c = rw (← c.are_digits.ensures, c.if-are_digits.true, c.number_of.ensures.0)

pub returns-else-are_digits : goal.returns-else-are_digits
returns-else-are_digits c = rw (← c.are_digits.ensures, c.if-are_digits.false)
