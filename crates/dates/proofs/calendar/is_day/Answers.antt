-- `calendar::is_day`: a day up to the 28th is in each month, and a later one is not below 1. Assumes nothing.
use mathlib.Core.Bool.{and-true, and-false, ◌&&◌}
use native.Mathlib.Omega.{arith}
use lib.Dec.{leb}
use borrow.Author.Tests.{le-leb, not-true, not-false}
use Rattle.dates.specs.Calendar.{is_day, days_in}
use Rattle.dates.proofs.MonthLaws.{is_month, least_days}
use Rattle.dates.proofs.calendar.is_day.Goals as goal

pub returns-then-not-month : goal.returns-then-not-month
unfolding is_day
returns-then-not-month c =
    let a = c.args in
    rw (not-true (is_month a.month) c.if-not-month.true-raw, and-false (leb 1900 a.year && leb a.year 9999))

pub returns-then-day-le28 : goal.returns-then-day-le28
unfolding is_day
returns-then-day-le28 c =
    let a = c.args in
    rw (
      not-false (is_month a.month) c.if-not-month.false-raw,
      and-true (leb 1900 a.year && leb a.year 9999),
      le-leb a.day (days_in a.year a.month) (omega (arith, least_days a.year a.month)),
      and-true (leb 1 a.day),
    )

pub returns : goal.returns
unfolding is_day
returns c =
    let a = c.args in
    rw (
      c.days_in.ensures,
      not-false (is_month a.month) c.if-not-month.false-raw,
      and-true (leb 1900 a.year && leb a.year 9999),
      le-leb 1 a.day (omega arith),
    )
