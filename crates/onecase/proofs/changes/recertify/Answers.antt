-- `changes::recertify` meets its contract: the writes of the definition, in its order. Assumes nothing.
use Rattle.onecase.proofs.StepsLaws.{recertified_steps}
use Rattle.onecase.proofs.changes.recertify.Goals as goal

pub returns : goal.returns
returns c =
    let g = c.args in
    recertified_steps g.locals.list.now g.rec.now g.row.now _ _ _ _ _ _ c.put_exclusions.ensures c.copy_unless_blank.ensures c.copy_unless_blank-2.ensures c.put_names.ensures c.copy_unless_blank-3.ensures c.put_local_code.ensures
