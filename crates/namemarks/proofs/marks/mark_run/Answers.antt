-- `marks::mark_run`: the part put back has its names marked; where no detail gives a name, there is none to mark. Assumes nothing.
use native.Mathlib.Omega.{arith}
use Rattle.namemarks.proofs.PartLaws.{part_details, part-marked, none_in_part}
use Rattle.namemarks.proofs.marks.mark_run.Goals as goal

pub mark_sorted-requires : goal.mark_sorted-requires
mark_sorted-requires c =
    let a = c.args in
    let r = c.requires in
    let g = c.rank_part-rank in (
      omega (arith, g.ensures, r.low),
      rw g.ensures (part_details a.state.now a.batch.now a.numbers.now a.p a.e a.gives r),
    )

pub returns-then-gives : goal.returns-then-gives
returns-then-gives c =
    let a = c.args in
    let m = c.mark_sorted in
    part-marked a.state.now a.batch.now a.numbers.now a.p a.e a.gives c.requires m.new.numbers m.ensures

pub returns-else-gives : goal.returns-else-gives
returns-else-gives c =
    let a = c.args in
    none_in_part a.state.now a.batch.now a.numbers.now a.p a.e a.gives c.requires c.if-gives.false
