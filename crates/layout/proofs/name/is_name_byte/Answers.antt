-- `name::is_name_byte` meets its contract: a letter by `is_letter`, or the hyphen. Assumes nothing.
use Rattle.layout.specs.Name.{is_name_byte}
use Rattle.layout.proofs.name.is_name_byte.Goals as goal

pub returns : goal.returns
unfolding is_name_byte
returns c = rw c.is_letter.ensures
