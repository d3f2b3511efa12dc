-- `amount::read_amount` meets its contract: the definition's tests in turn, and tens and the last digit fit 64 bits. Assumes nothing.
use mathlib.Core.Path.{sym, ◌∙◌}
use native.Mathlib.Omega.{arith}
use borrow.Author.Tests.{not-true, not-false}
use Rattle.collectionfile.proofs.AmountLaws.{no_digits, no_last, good, front_width}
use Rattle.collectionfile.proofs.amount.read_amount.Goals as goal

pub returns-then-not-all_digits : goal.returns-then-not-all_digits
returns-then-not-all_digits c = no_digits c.args.field.now c.requires (sym c.all_digits.ensures ∙ not-true _ c.if-not-all_digits.true-raw)

pub returns-then-not-is_last_digit : goal.returns-then-not-is_last_digit
returns-then-not-is_last_digit c = no_last c.args.field.now c.requires (sym c.all_digits.ensures ∙ not-false _ c.if-not-all_digits.false-raw)
    (sym c.is_last_digit.ensures ∙ not-true _ c.if-not-is_last_digit.true-raw)

pub number_of-tens-requires : goal.number_of-tens-requires
number_of-tens-requires c =
    let w = front_width c.args.field.now c.requires in
    (omega (arith, w), sym c.all_digits.ensures ∙ not-false _ c.if-not-all_digits.false-raw)

pub overflow_mul-result : goal.overflow_mul-result
overflow_mul-result c =
    let w = front_width c.args.field.now c.requires in
    let n = rw w at c.number_of-tens.ensures.1 in
    omega (arith, n)

pub overflow_add-result : goal.overflow_add-result
overflow_add-result c =
    let w = front_width c.args.field.now c.requires in
    let n = rw w at c.number_of-tens.ensures.1 in
    omega (arith, n)

pub returns : goal.returns
returns c =
    good c.args.field.now c.requires c.number_of-tens.result (sym c.all_digits.ensures ∙ not-false _ c.if-not-all_digits.false-raw)
    (sym c.is_last_digit.ensures ∙ not-false _ c.if-not-is_last_digit.false-raw) c.number_of-tens.ensures.0
