-- `merge::merged_count`: both batches have a record to take off. Assumes nothing.
use Rattle.layout.specs.Limits.{max_rows}
use native.Mathlib.Omega.{arith}
use Rattle.batchfile.proofs.RefusalsLaws.{batch_known}
use Rattle.merging.proofs.merge.merged_count.Goals as goal

pub overflow_sub-result : goal.overflow_sub-result
overflow_sub-result c = omega (arith, (batch_known max_rows _ 0 c.requires.0).0.whole.one)

pub returns : goal.returns
returns c = omega (arith, (batch_known max_rows _ 0 c.requires.0).0.whole.one, (batch_known max_rows _ 0 c.requires.1).0.whole.one)
