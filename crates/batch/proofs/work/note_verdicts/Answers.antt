-- `work::note_verdicts`: on whatever rows the details of own keys were worked, the numbers put back hold all verdicts. Assumes nothing.
use native.Mathlib.Omega.{arith}
use Rattle.layout.specs.Batch.{details_of}
use Rattle.batch.proofs.NotedLaws.{noted}
use Rattle.batch.proofs.work.note_verdicts.Goals as goal

pub overflow_sub-d : goal.overflow_sub-d
overflow_sub-d c = omega (arith, c.requires.batch_in)

pub work_alone-requires : goal.work_alone-requires
work_alone-requires c =
    let r = c.requires in
    (r.own_in, r.slots, r.there)

pub put_back-requires : goal.put_back-requires
put_back-requires c =
    omega (arith, c.requires.slots, c.work_alone.auto.numbers)

pub case_counts-counts-requires : goal.case_counts-counts-requires
case_counts-counts-requires c =
    let r = c.requires in
    (r.batch_in, r.totals, r.counts)

pub write_verdicts-requires : goal.write_verdicts-requires
unfolding details_of
write_verdicts-requires c =
    let r = c.requires in
    record { d_in_bounds = (omega (arith, r.batch_in), omega (arith, r.slots, c.work_alone.auto.numbers, c.put_back.auto.numbers), r.space); tanf_value = c.case_counts-counts.ensures }

pub returns : goal.returns
returns c =
    let a = c.args in
    noted a.setting.state.now a.setting.year a.setting.locals.list.now a.batch.now a.own a.rows a.numbers.now a.rejects.now _ _ c.work_alone.ensures
    c.put_back.ensures _ _ _ c.write_verdicts.ensures.0 c.write_verdicts.ensures.3
