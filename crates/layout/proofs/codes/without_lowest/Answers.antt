-- `layout::codes::without_lowest` meets its contract: 2 to the power of the lowest code is part of the set's number, and the shift
-- loses no bit. Assumes nothing.
use mathlib.Core.Path.{◌≡◌, ◌∙◌}
use Prim.Native.Nat.{◌+◌, ◌*◌, ◌%◌, ◌^◌, ◌≤◌}
use native.Mathlib.Omega.{arith}
use lib.Count.{count_trailing_zeros}
use lib.Pow.{shl_exact}
use lib.Dec.{lit<}
use Rattle.layout.proofs.CodesLaws.{lowest_codes, lowest_place}
use Rattle.layout.proofs.codes.without_lowest.Goals as goal
use Rattle.layout.proofs.codes.without_lowest.Goals.{Start}

-- the shift loses nothing
shifted : (c : Start) → 1 * 2 ^ count_trailing_zeros 64 c.args.set % 2 ^ 64 ≡ 2 ^ count_trailing_zeros 64 c.args.set
shifted c =
    let p = (lowest_place c.args.set c.ranges.set.fits c.requires).0 in
    let q : 1 + count_trailing_zeros 64 c.args.set ≤ 64 = omega arith in
    shl_exact 1 (count_trailing_zeros 64 c.args.set) 64 (lit< tt) q ∙ omega arith

pub overflow_cast-result : goal.overflow_cast-result
overflow_cast-result c = omega (arith, (lowest_place c.args.set c.ranges.set.fits c.requires).0)

pub overflow_shl-result : goal.overflow_shl-result
overflow_shl-result c = (lowest_place c.args.set c.ranges.set.fits c.requires).0

pub overflow_sub-result : goal.overflow_sub-result
overflow_sub-result c = rw (shifted (goal.at.overflow_sub-result c).Start) (lowest_place c.args.set c.ranges.set.fits c.requires).1

pub returns : goal.returns
returns c = rw (shifted (goal.at.returns c).Start) (omega arith, rw (lowest_codes c.args.set c.ranges.set.fits c.requires))
