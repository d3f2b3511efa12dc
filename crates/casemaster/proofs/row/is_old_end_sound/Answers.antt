-- `row::is_old_end_sound` meets its contract: the definition's tests in turn, on the fields that `field` hands on. Assumes nothing.
use Rattle.casemaster.specs.Row.{is_old_end_sound}
use Rattle.casemaster.proofs.row.is_old_end_sound.Goals as goal

pub returns : goal.returns
unfolding is_old_end_sound
returns c =
    rw (
      c.is_blank-filler.ensures,
      c.field.ensures,
      c.is_deleted_at-status.ensures,
      c.has_zero_arrearage.ensures,
    )
