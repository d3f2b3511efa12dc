-- `merge::write_merged`: the details of both and the control record are written one behind the other. Assumes nothing.
use mathlib.Core.Path.{refl}
use native.Mathlib.Omega.{arith}
use Rattle.layout.specs.Limits.{max_rows}
use Rattle.merging.proofs.MergeLaws.{both_passed, first_long, second_long, out_long, merged_written}
use Rattle.merging.proofs.merge.write_merged.Goals as goal

pub merged_control-control-requires : goal.merged_control-control-requires
merged_control-control-requires c = both_passed max_rows _ _ _ c.requires

pub overflow_sub-a : goal.overflow_sub-a
overflow_sub-a c = omega (arith, first_long max_rows _ _ _ c.requires)

pub overflow_sub-b : goal.overflow_sub-b
overflow_sub-b c = omega (arith, second_long max_rows _ _ _ c.requires)

pub copy_records-requires : goal.copy_records-requires
copy_records-requires c =
    (omega (arith, out_long max_rows _ _ _ c.requires), omega (arith, first_long max_rows _ _ _ c.requires))

pub copy_records-requires-2 : goal.copy_records-requires-2
copy_records-requires-2 c =
    (omega (arith, out_long max_rows _ _ _ c.requires, c.copy_records.auto.out), omega (arith, second_long max_rows _ _ _ c.requires))

pub copy_in-requires : goal.copy_in-requires
copy_in-requires c =
    omega (arith, out_long max_rows _ _ _ c.requires, c.copy_records-2.auto.out, c.copy_records.auto.out)

pub returns : goal.returns
returns c =
    let a = c.args in
    merged_written max_rows a.first.now a.second.now a.out.now c.requires _ _ _ _ _ _ refl refl c.merged_control-control.ensures
    c.copy_records.ensures c.copy_records-2.ensures c.copy_in.ensures
