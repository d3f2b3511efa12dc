-- `merge::control_of`: a batch that passes has a last record. Assumes nothing.
use Rattle.layout.specs.Limits.{max_rows}
use native.Mathlib.Omega.{arith}
use Rattle.layout.specs.Batch.{control_of}
use Rattle.batchfile.proofs.RefusalsLaws.{batch_known}
use Rattle.batchfile.proofs.PassesLaws.{batch-length}
use Rattle.merging.proofs.merge.control_of.Goals as goal

pub overflow_sub-batch : goal.overflow_sub-batch
overflow_sub-batch c = omega (arith, (batch_known max_rows _ 0 c.requires).0.whole.one)

pub record_at-requires : goal.record_at-requires
record_at-requires c = omega (arith, batch-length max_rows _ (batch_known max_rows _ 0 c.requires).0)

pub returns : goal.returns
unfolding control_of
returns c = c.record_at.ensures
