-- `is_local_of` answers for state and code: each comparison answers for one. Assumes nothing.
use Rattle.contacttable.specs.Codes.{is_local_of}
use Rattle.contacttable.proofs.codes.is_local_of.Goals as goal

pub returns : goal.returns
unfolding is_local_of
returns c =
    rw (
      c.same-zero.ensures,
      c.field-2.ensures,
      c.same-own.ensures,
      c.field.ensures,
    )
