-- `new_files::reject_length`: the records of the details that have a code, and the control record, are the blocks counted. Assumes nothing.
use lib.ListN.{length, length-take}
use borrow.Author.Rules.{rules}
use native.Mathlib.Omega.{arith}
use mathlib.Core.Path.{◌≡◌}
use Rattle.apply_output.proofs.new_files.reject_length.Goals as goal

pub record_count-requires : goal.record_count-requires
record_count-requires c =
    let n : length c.args.verdicts.now ≡ 100 = search rules in
    rw c.first-numbers.ensures (simp length-take (omega arith))

pub returns : goal.returns
returns c = rw (← c.detail_count.ensures, ← c.first-numbers.ensures, ← c.record_count.ensures) c.blocks_length.ensures
