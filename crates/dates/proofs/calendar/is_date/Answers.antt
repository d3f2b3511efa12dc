-- `calendar::is_date` meets its contract: the definition's tests on the numbers of year, month and day, once there are eight digits. Assumes nothing.
use mathlib.Core.Bool.{true}
use mathlib.Core.Path.{◌≡◌, sym, ◌∙◌}
use lib.Dec.{lit<, lit≤}
use borrow.Author.Tests.{not-true, not-false}
use Rattle.dates.specs.Calendar.{is_date}
use Rattle.text.specs.Fields.{are_digits}
use Rattle.text.proofs.FieldsLaws.{digits_inside, digits_columns}
use Rattle.dates.proofs.calendar.is_date.Goals as goal

pub returns-then-not-are_digits : goal.returns-then-not-are_digits
unfolding is_date
returns-then-not-are_digits c = rw (sym c.are_digits.ensures ∙ not-true _ c.if-not-are_digits.true-raw)

pub number_at-year-requires : goal.number_at-year-requires
number_at-year-requires c =
    let t : are_digits 8 c.args.s.now ≡ true = sym c.are_digits.ensures ∙ not-false _ c.if-not-are_digits.false-raw in
    (digits_inside 8 _ t 1 4 (lit≤ tt) (lit≤ tt) (lit≤ tt), lit< tt, digits_columns 8 _ t 1 4)

pub number_at-month-requires : goal.number_at-month-requires
number_at-month-requires c =
    let t : are_digits 8 c.args.s.now ≡ true = sym c.are_digits.ensures ∙ not-false _ c.if-not-are_digits.false-raw in
    (digits_inside 8 _ t 5 6 (lit≤ tt) (lit≤ tt) (lit≤ tt), lit< tt, digits_columns 8 _ t 5 6)

pub number_at-day-requires : goal.number_at-day-requires
number_at-day-requires c =
    let t : are_digits 8 c.args.s.now ≡ true = sym c.are_digits.ensures ∙ not-false _ c.if-not-are_digits.false-raw in
    (digits_inside 8 _ t 7 8 (lit≤ tt) (lit≤ tt) (lit≤ tt), lit< tt, digits_columns 8 _ t 7 8)

pub returns : goal.returns
unfolding is_date
returns c =
    let t : are_digits 8 c.args.s.now ≡ true = sym c.are_digits.ensures ∙ not-false _ c.if-not-are_digits.false-raw in
    rw (t, c.is_day.ensures, c.number_at-day.ensures.0, c.number_at-month.ensures.0, c.number_at-year.ensures.0)
