-- `marks::mark_sorted`: each code keeps its detail's index, so sorted again the details stand as before, with their marks.
-- Assumes nothing.
use native.Mathlib.Omega.{arith}
use Rattle.text.proofs.ByteNumberLaws.{bytes_of}
use Rattle.namemarks.proofs.MarksLaws.{codes_rise, passes}
use Rattle.namemarks.proofs.marks.mark_sorted.Goals as goal

pub sweep-requires : goal.sweep-requires
sweep-requires c =
    let a = c.args in
    (c.requires.0, codes_rise a.state.now a.batch.now a.rank a.numbers.now c.requires.1 c.code_all.new.numbers c.sort.new.numbers c.code_all.ensures c.sort.ensures)

pub returns : goal.returns
returns c =
    let a = c.args in
    let bytes = bytes_of a.batch.now (λ i h. omega (arith, c.shared_slice_known-1.given i)) in
    passes a.state.now a.batch.now a.rank a.numbers.now c.requires.1 bytes c.code_all.new.numbers c.sort.new.numbers c.sweep.new.numbers _ c.code_all.ensures c.sort.ensures c.sweep.ensures c.sort-2.ensures
