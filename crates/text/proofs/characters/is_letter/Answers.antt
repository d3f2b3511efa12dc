-- `characters::is_letter` meets its contract: letters are the three ranges that `is_within` tests. Assumes nothing.
use Rattle.text.specs.Characters.{is_letter}
use Rattle.text.proofs.characters.is_letter.Goals as goal

pub returns : goal.returns
unfolding is_letter
returns c = cc
