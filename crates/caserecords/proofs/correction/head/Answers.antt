-- `correction::head` meets its contract: the definition's fields in turn. Assumes nothing.
use Rattle.caserecords.specs.Records.{head_of}
use Rattle.caserecords.proofs.correction.head.Goals as goal

pub returns : goal.returns
unfolding head_of
returns c =
    rw (
      c.copy-4.ensures,
      c.put.ensures,
      c.from.ensures,
      c.copy-3.ensures,
      c.copy-2.ensures,
      c.copy.ensures,
    )
