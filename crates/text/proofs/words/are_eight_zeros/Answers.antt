-- `words::are_eight_zeros` meets its contract: the comparison is made byte by byte. Assumes nothing.
use Rattle.text.proofs.WordLaws.{eight_zeros}
use Rattle.text.proofs.words.are_eight_zeros.Goals as goal

pub returns : goal.returns
returns c = λ s l b e. rw e (eight_zeros s l b)
