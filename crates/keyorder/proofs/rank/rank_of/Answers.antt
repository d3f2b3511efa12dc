-- `rank::rank_of`: a key that isn't own ranks behind all that are. Assumes nothing.
use mathlib.Core.Path.{sym, ap, ◌∙◌}
use mathlib.Core.Bool.{not}
use native.Mathlib.Omega.{arith}
use lib.Dec.{lit≤}
use Rattle.keyorder.proofs.RankLaws.{other_rank}
use Rattle.keyorder.proofs.rank.rank_of.Goals as goal

pub returns-then-wrong : goal.returns-then-wrong
returns-then-wrong c =
    (sym (other_rank c.args.state.now c.args.key.now (c.requires ∙ ap not c.if-wrong.true)), lit≤ tt)

pub own_rank-requires : goal.own_rank-requires
own_rank-requires c = c.requires ∙ ap not c.if-wrong.false

pub returns : goal.returns
returns c = (c.own_rank.ensures.0, omega (arith, c.own_rank.ensures.1))
