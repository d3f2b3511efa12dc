-- `stated::sum_at`: two numbers of at most 18 digits can be summed. Assumes nothing.
use native.Mathlib.Omega.{arith}
use Rattle.batchfile.proofs.StatedLaws.{sum_fits}
use Rattle.batchfile.proofs.stated.sum_at.Goals as goal

pub overflow_add-result : goal.overflow_add-result
overflow_add-result c =
    let p = c.args.c in
    omega (arith, sum_fits _ _ p.first p.last c.requires.3 c.number_at.ensures.1 c.number_at-2.ensures.1)
