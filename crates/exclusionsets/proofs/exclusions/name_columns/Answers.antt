-- `exclusions::name_columns` meets its contract, by the bit. Assumes nothing.
use Rattle.exclusionsets.proofs.exclusions.name_columns.Goals as goal

pub returns-then-on : goal.returns-then-on
returns-then-on c = rw c.if-on.true

pub returns : goal.returns
returns c = rw c.if-on.false
