-- `errors::has_18` meets its contract: the filler in three parts. Assumes nothing.
use mathlib.Core.Path.{◌≡◌}
use lib.ListN.{length}
use borrow.Author.Rules.{rules}
use Rattle.judging.specs.Errors.{error18}
use Rattle.judging.proofs.FillerLaws.{filler_parts}
use Rattle.judging.proofs.errors.has_18.Goals as goal

pub returns : goal.returns
unfolding error18
returns c =
    let rec = c.args.rec.now in
    let n : length rec ≡ 245 = search rules in
    rw (filler_parts rec n, c.are_eight_spaces-front.ensures, c.are_eight_spaces-back.ensures)
