-- `layout::codes::lowest` meets its contract: the lowest code is the count of trailing zeros. Assumes nothing.
use Rattle.layout.proofs.CodesLaws.{lowest_codes, lowest_place}
use Rattle.layout.proofs.codes.lowest.Goals as goal

pub returns : goal.returns
returns c =
    let f = c.ranges.set.fits in
    ((lowest_place c.args.set f c.requires).0, rw (lowest_codes c.args.set f c.requires))
