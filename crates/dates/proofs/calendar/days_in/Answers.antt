-- `calendar::days_in`: for the twelve months its arithmetic gives the calendar's lengths, any other number has 31. Assumes nothing.
use mathlib.Core.Logic.{inl, inr}
use mathlib.Core.Path.{sym, ◌∙◌}
use native.Mathlib.Omega.{arith}
use borrow.Author.Rules.{rules}
use borrow.Author.Tests.{not-true, not-false}
use Rattle.dates.proofs.MonthLaws.{month_length_lem, month_bounds, no_month, length_common, length_leap}
use Rattle.dates.proofs.calendar.days_in.Goals as goal

pub returns-then-not-month : goal.returns-then-not-month
returns-then-not-month c = no_month _ _ (not-true _ c.if-not-month.true-raw)

pub nonzero_div-february : goal.nonzero_div-february
nonzero_div-february c = let b = month_bounds c.args.month (not-false _ c.if-not-month.false-raw) in omega arith

pub overflow_add-days : goal.overflow_add-days
overflow_add-days c = let b = month_bounds c.args.month (not-false _ c.if-not-month.false-raw) in search rules

pub returns-then-february-eq0 : goal.returns-then-february-eq0
returns-then-february-eq0 c =
    let b = month_bounds _ (not-false _ c.if-not-month.false-raw) in
    length_common _ _ (inl c.if-february-eq0.true) ∙ month_length_lem _ _ b.0 b.1

pub returns-then-is_leap : goal.returns-then-is_leap
returns-then-is_leap c =
    let b = month_bounds _ (not-false _ c.if-not-month.false-raw) in
    length_leap _ _ c.if-february-eq0.false (sym c.is_leap.ensures ∙ c.if-is_leap.true) ∙ month_length_lem _ _ b.0 b.1

pub returns-else-is_leap : goal.returns-else-is_leap
returns-else-is_leap c =
    let b = month_bounds _ (not-false _ c.if-not-month.false-raw) in
    length_common _ _ (inr (sym c.is_leap.ensures ∙ c.if-is_leap.false)) ∙ month_length_lem _ _ b.0 b.1
