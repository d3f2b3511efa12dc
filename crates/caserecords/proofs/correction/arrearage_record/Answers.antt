-- `correction::arrearage_record` meets its contract: the head with the field. Assumes nothing.
use Rattle.caserecords.specs.Records.{arrearage_record}
use Rattle.caserecords.proofs.correction.arrearage_record.Goals as goal

pub returns : goal.returns
unfolding arrearage_record
returns c =
    rw (
      c.copy.ensures,
      c.head-rec.ensures,
    )
