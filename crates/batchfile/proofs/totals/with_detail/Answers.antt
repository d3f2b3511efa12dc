-- `totals::with_detail`: each total has room for one detail more, by `FitsOneMore`. Assumes nothing.
use native.Mathlib.Omega.{arith}
use Rattle.text.specs.Characters.{A, N}
use Rattle.batchfile.proofs.TotalsLaws.{count_small, amount_small}
use Rattle.batchfile.proofs.totals.with_detail.Goals as goal

pub overflow_add-result : goal.overflow_add-result
overflow_add-result c =
    omega (arith, c.count_in.ensures, count_small A c.args.rec.now, c.requires.0.tanf_count)

pub overflow_add-result-2 : goal.overflow_add-result-2
overflow_add-result-2 c =
    omega (arith, c.count_in-2.ensures, count_small N c.args.rec.now, c.requires.0.non_tanf_count)

pub overflow_add-result-3 : goal.overflow_add-result-3
overflow_add-result-3 c =
    omega (arith, c.amount_in.ensures, amount_small A c.args.rec.now, c.requires.0.tanf_amount)

pub overflow_add-result-4 : goal.overflow_add-result-4
overflow_add-result-4 c =
    omega (arith, c.amount_in-2.ensures, amount_small N c.args.rec.now, c.requires.0.non_tanf_amount)
