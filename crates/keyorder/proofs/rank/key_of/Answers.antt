-- `rank::key_of`: state, SSN and case type one behind the other. Assumes nothing.
use Prim.Native.Nat.{◌/◌}
use mathlib.Core.Path.{refl, ◌∙◌}
use Rattle.text.specs.Fields.{spaces}
use Rattle.keyorder.specs.Order.{key_of_rank}
use Rattle.keyorder.proofs.RankLaws.{key_written}
use Rattle.keyorder.proofs.rank.key_of.Goals as goal

pub returns : goal.returns
unfolding key_of_rank
returns c =
    key_written c.args.state.now (c.args.rank / 2) _ c.requires (spaces 12) _ _ _ refl c.put.ensures c.put_number.ensures
    c.put-2.ensures
    ∙ rw c.type_of.ensures
