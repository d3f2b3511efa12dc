-- `changes::make_fresh` meets its contract: the writes of the definition, in its order. Assumes nothing.
use Rattle.onecase.proofs.StepsLaws.{fresh_steps}
use Rattle.onecase.proofs.changes.make_fresh.Goals as goal

pub returns : goal.returns
returns c =
    let g = c.args in
    fresh_steps g.locals.list.now g.rec.now _ _ _ _ _ _ c.start_fresh.ensures c.put_names.ensures c.copy.ensures c.put_local_code.ensures c.record_key-key.ensures c.write.ensures
