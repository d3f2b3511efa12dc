-- `differences::is_other` meets its contract: the test of the two fields that `field` hands on. Assumes nothing.
use Rattle.caserecords.proofs.differences.is_other.Goals as goal

pub returns : goal.returns
returns c =
    rw (
      c.same.ensures,
      c.field-2.ensures,
      c.field.ensures,
    )
