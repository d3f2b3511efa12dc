-- `row::is_end_sound` meets its contract: the definition's tests in turn, on the fields that `field` hands on. Assumes nothing.
use Rattle.casemaster.specs.Row.{is_balance_zero, is_end_sound}
use Rattle.casemaster.proofs.row.is_end_sound.Goals as goal

pub returns : goal.returns
unfolding is_end_sound is_balance_zero
returns c =
    rw (
      c.is_blank-filler.ensures,
      c.field-3.ensures,
      c.all_digits-digits.ensures,
      c.field-2.ensures,
      c.is_deleted_at-status.ensures,
      c.is_zero-cents.ensures,
      c.field.ensures,
      c.has_zero_arrearage-dollars.ensures,
    )
