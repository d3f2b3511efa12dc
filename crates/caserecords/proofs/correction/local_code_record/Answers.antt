-- `correction::local_code_record` meets its contract: the head with the field. Assumes nothing.
use Rattle.caserecords.specs.Records.{local_code_record}
use Rattle.caserecords.proofs.correction.local_code_record.Goals as goal

pub returns : goal.returns
unfolding local_code_record
returns c =
    rw (
      c.copy.ensures,
      c.head-rec.ensures,
    )
