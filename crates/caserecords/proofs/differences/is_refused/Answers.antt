-- `differences::is_refused` meets its contract: the definition's two tests. Assumes nothing.
use Rattle.caserecords.specs.Differences.{refusal29}
use Rattle.caserecords.proofs.differences.is_refused.Goals as goal

pub returns : goal.returns
unfolding refusal29
returns c =
    rw (
      c.is_barred-barred.ensures,
      c.same-same.ensures,
    )
