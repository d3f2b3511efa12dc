-- `verdict::stored_name` meets its contract: four bytes from index 30 on are columns 31 to 34. Assumes nothing.
use lib.Seq.{drop-cons}
use native.Mathlib.Omega.{arith}
use mathlib.Core.Path.{◌≡◌}
use lib.ListN.{length}
use Rattle.onecase.proofs.verdict.stored_name.Goals as goal

pub returns : goal.returns
returns c =
    let row = c.args.row.now in
    let n : length row ≡ 200 = c.requires in
    rw (drop-cons row 30 0 (omega arith), drop-cons row 31 0 (omega arith), drop-cons row 32 0 (omega arith), drop-cons row 33 0 (omega arith))
