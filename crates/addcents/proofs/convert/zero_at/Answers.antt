-- `convert::zero_at` meets its contract: the row is put back with zero cents. Assumes nothing.
use mathlib.Core.Path.{ap, ◌∙◌}
use Rattle.casemaster.specs.Row.{with_zero_cents}
use Rattle.addcents.proofs.convert.zero_at.Goals as goal

pub returns : goal.returns
returns c =
    let e = c.zero_cents.ensures ∙ ap with_zero_cents c.row_at-row.ensures in
    rw (← e) c.put_row.ensures
