-- `fields::is_zero` meets its contract: zero is every byte the digit zero, which `all_are` tests. Assumes nothing.
use Rattle.text.specs.Fields.{is_zero}
use Rattle.text.proofs.fields.is_zero.Goals as goal

pub returns : goal.returns
unfolding is_zero
returns c = c.all_are.ensures
