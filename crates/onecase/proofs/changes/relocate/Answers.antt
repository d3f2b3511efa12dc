-- `changes::relocate` meets its contract: each branch writes what the definition has for a blank code and for another. Assumes nothing.
use mathlib.Core.Path.{sym, ap, ◌∙◌}
use Rattle.text.specs.Fields.{is_blank}
use Rattle.onecase.specs.Changes.{relocated}
use Rattle.onecase.proofs.changes.relocate.Goals as goal

pub returns-then-is_blank : goal.returns-then-is_blank
unfolding relocated
returns-then-is_blank c =
    rw (sym (c.is_blank.ensures ∙ ap is_blank c.field.ensures) ∙ c.if-is_blank.true, c.write.ensures)

pub returns-else-is_blank : goal.returns-else-is_blank
unfolding relocated
returns-else-is_blank c =
    rw (sym (c.is_blank.ensures ∙ ap is_blank c.field.ensures) ∙ c.if-is_blank.false, c.copy.ensures)
