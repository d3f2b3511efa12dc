-- `changes::copy_unless_blank` meets its contract: nothing is written where `is_blank` says so. Assumes nothing.
use mathlib.Core.Path.{sym, ap, ◌∙◌}
use Rattle.text.specs.Fields.{is_blank}
use borrow.Author.Tests.{not-true, not-false}
use Rattle.onecase.proofs.changes.copy_unless_blank.Goals as goal

pub returns-then-not-is_blank : goal.returns-then-not-is_blank
returns-then-not-is_blank c =
    rw (sym (c.is_blank.ensures ∙ ap is_blank c.field.ensures) ∙ not-true _ c.if-not-is_blank.true-raw) c.copy.ensures

pub returns-else-not-is_blank : goal.returns-else-not-is_blank
returns-else-not-is_blank c = rw (sym (c.is_blank.ensures ∙ ap is_blank c.field.ensures) ∙ not-false _ c.if-not-is_blank.false-raw)
