-- `fields::is_blank` meets its contract: blank is every byte a space, which `all_are` tests. Assumes nothing.
use Rattle.text.specs.Fields.{is_blank}
use Rattle.text.proofs.fields.is_blank.Goals as goal

pub returns : goal.returns
unfolding is_blank
returns c = c.all_are.ensures
