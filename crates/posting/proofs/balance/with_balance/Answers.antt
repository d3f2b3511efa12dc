-- `balance::with_balance` meets its contract: the writes of the definition, in its order. Assumes nothing.
use Rattle.posting.proofs.BalanceLaws.{balance-written}
use Rattle.posting.proofs.balance.with_balance.Goals as goal

pub returns : goal.returns
returns c =
    balance-written c.args.cents.0 _ _ _ c.args.row _ _ _ c.beside_dollars-part.ensures c.whole_dollars-dollars.ensures c.status_of.ensures
    c.with_cents-a.ensures c.with_status-b.ensures c.with_dollars.ensures
