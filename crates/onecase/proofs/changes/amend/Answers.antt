-- `changes::amend` meets its contract: the status is written where the amount is zero, as in the definition. Assumes nothing.
use mathlib.Core.Path.{sym, ap, ◌∙◌}
use Rattle.text.specs.Fields.{is_zero}
use Rattle.onecase.specs.Changes.{amended}
use Rattle.onecase.proofs.changes.amend.Goals as goal

pub returns-then-is_zero : goal.returns-then-is_zero
unfolding amended
returns-then-is_zero c =
    rw (sym (c.is_zero.ensures ∙ ap is_zero c.field.ensures) ∙ c.if-is_zero.true, c.write.ensures, c.copy.ensures, c.zero_cents.ensures)

pub returns-else-is_zero : goal.returns-else-is_zero
unfolding amended
returns-else-is_zero c =
    rw (sym (c.is_zero.ensures ∙ ap is_zero c.field.ensures) ∙ c.if-is_zero.false, c.copy.ensures, c.zero_cents.ensures)
