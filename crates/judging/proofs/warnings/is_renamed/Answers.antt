-- `warnings::is_renamed` meets its contract: the definition's tests, on the fields that `field` hands on. Assumes nothing.
use Rattle.judging.specs.Warnings.{is_renamed}
use Rattle.judging.proofs.warnings.is_renamed.Goals as goal

pub returns : goal.returns
unfolding is_renamed
returns c =
    rw (c.is_live.ensures, c.same-first.ensures, c.field-4.ensures, c.field-3.ensures, c.same-last.ensures, c.field-2.ensures, c.field.ensures)
