-- `refusals::is_wrong_length`: the code's limit is the definition's number. Assumes nothing.
use Rattle.layout.proofs.LimitsLaws.{max_records}
use Rattle.batchfile.specs.Refusals.{refusal5}
use Rattle.batchfile.proofs.refusals.is_wrong_length.Goals as goal

pub returns : goal.returns
unfolding refusal5
returns c = rw max_records
