-- `correction::case_id_record` meets its contract: the head with the field. Assumes nothing.
use Rattle.caserecords.specs.Records.{case_id_record}
use Rattle.caserecords.proofs.correction.case_id_record.Goals as goal

pub returns : goal.returns
unfolding case_id_record
returns c =
    rw (
      c.copy.ensures,
      c.head-rec.ensures,
    )
