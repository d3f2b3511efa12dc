-- `refusals::opening_refusal`: the two comparisons of the year are refusal 1, the list's test is refusal 2. Assumes nothing.
use mathlib.Core.Path.{sym, ◌∙◌}
use borrow.Author.Tests.{lt-ltb, le-ltb}
use Rattle.batch.specs.Refusals.{refusal1, refusal2}
use Rattle.batch.proofs.refusals.opening_refusal.Goals as goal

pub returns-then-year-lt1900 : goal.returns-then-year-lt1900
unfolding refusal1
returns-then-year-lt1900 c = rw (lt-ltb _ _ c.if-year-lt1900.true)

pub returns-then-year-gt9999 : goal.returns-then-year-gt9999
unfolding refusal1
returns-then-year-gt9999 c = rw (le-ltb _ _ c.if-year-lt1900.false, lt-ltb _ _ c.if-year-gt9999.true)

pub returns-then-is_local_list : goal.returns-then-is_local_list
unfolding refusal1 refusal2
returns-then-is_local_list c = rw (le-ltb _ _ c.if-year-lt1900.false, le-ltb _ _ c.if-year-gt9999.false, sym c.is_local_list.ensures ∙ c.if-is_local_list.true)

pub returns-else-is_local_list : goal.returns-else-is_local_list
unfolding refusal1 refusal2
returns-else-is_local_list c = rw (le-ltb _ _ c.if-year-lt1900.false, le-ltb _ _ c.if-year-gt9999.false, sym c.is_local_list.ensures ∙ c.if-is_local_list.false)
