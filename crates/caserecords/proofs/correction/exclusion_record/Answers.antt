-- `correction::exclusion_record` meets its contract: the head with the field. Assumes nothing.
use lib.Dec.{lit≤}
use Rattle.text.proofs.FieldsLaws.{one_column}
use Rattle.caserecords.specs.Records.{exclusion_record}
use Rattle.caserecords.proofs.correction.exclusion_record.Goals as goal

pub returns : goal.returns
unfolding exclusion_record
returns c =
    rw (one_column 195 c.args.wanted.now (lit≤ tt), c.put.ensures, c.exclusion_field-field.ensures, c.head-rec.ensures)
