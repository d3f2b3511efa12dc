-- `outcome::with_year`: the call changes the part that it is lent, and the rest of the buffer stays behind it. Assumes nothing.
use mathlib.Core.Path.{◌≡◌}
use Prim.Native.Nat.{◌-◌, ◌≤◌}
use native.Mathlib.Omega.{arith}
use Rattle.apply_files.specs.Run.{lent_length}
use Rattle.apply_files.proofs.RunLaws.{lent_bound, with_rest_lem}
use Rattle.apply_files.proofs.outcome.with_year.Goals as goal

pub slice_bounds-apply-end : goal.slice_bounds-apply-end
slice_bounds-apply-end c =
    let l : lent_length c.args.n ≤ 40000 = lent_bound c.args.n c.requires.0 in
    omega (arith, c.lent_length-end.ensures, c.requires.1)

pub returns : goal.returns
returns c =
    let e = c.lent_length-end.result in
    let z : e - 0 ≡ lent_length c.args.n = omega (arith, c.lent_length-end.ensures) in
    with_rest_lem c.apply.result c.args.master.now c.apply.new.master (e - 0) c.args.n c.args.batch.now c.args.locals.now
    c.args.year c.args.verdicts.now c.args.rejects.now c.apply.new.verdicts c.apply.new.rejects z
    c.apply.ensures.is
