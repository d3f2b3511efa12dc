-- `warnings::warned` meets its contract: 51 is judged first. Assumes nothing.
use Rattle.judging.proofs.warnings.warned.Goals as goal

pub returns : goal.returns
returns c = c.warned_on_row.ensures c.args.locals.list.now c.has_51.ensures
