-- `process_year::in_window` meets its contract: four digits leave room for seven more. Assumes nothing.
use mathlib.Core.Bool.{true}
use mathlib.Core.Path.{◌≡◌, sym, ◌∙◌}
use Prim.Native.Nat.{◌<◌, ◌^◌}
use native.Mathlib.Omega.{arith}
use borrow.Author.Tests.{not-true, not-false}
use Rattle.text.specs.Fields.{are_digits}
use Rattle.layout.specs.ProcessYear.{in_window}
use Rattle.text.proofs.FieldsLaws.{digits_width, digits_all}
use Rattle.layout.proofs.process_year.in_window.Goals as goal

pub returns-then-not-are_digits : goal.returns-then-not-are_digits
unfolding in_window
returns-then-not-are_digits c = rw (sym c.are_digits.ensures ∙ not-true _ c.if-not-are_digits.true-raw)

pub number_of-y-requires : goal.number_of-y-requires
number_of-y-requires c =
    let t : are_digits 4 c.args.s.now ≡ true = sym c.are_digits.ensures ∙ not-false _ c.if-not-are_digits.false-raw in
    (omega (arith, digits_width 4 c.args.s.now t), digits_all 4 c.args.s.now t)

pub overflow_add-result : goal.overflow_add-result
overflow_add-result c =
    let t : are_digits 4 c.args.s.now ≡ true = sym c.are_digits.ensures ∙ not-false _ c.if-not-are_digits.false-raw in
    let b : c.number_of-y.result < 10 ^ 4 = rw (digits_width 4 c.args.s.now t) at c.number_of-y.ensures.1 in
    omega (arith, b)

pub returns : goal.returns
unfolding in_window
returns c = rw (sym c.are_digits.ensures ∙ not-false _ c.if-not-are_digits.false-raw, c.number_of-y.ensures.0)
