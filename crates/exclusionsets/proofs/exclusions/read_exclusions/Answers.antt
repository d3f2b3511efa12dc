-- `exclusions::read_exclusions` meets its contract: the part that is read has the words of the field. Assumes nothing.
use mathlib.Core.Path.{ap, ◌∙◌}
use Rattle.exclusionsets.specs.Exclusions.{read_onto, exclusions_of}
use Rattle.exclusionsets.proofs.exclusions.read_exclusions.Goals as goal

pub returns : goal.returns
unfolding exclusions_of
returns c = c.read_words.ensures ∙ ap (read_onto 0) c.words_part.ensures
